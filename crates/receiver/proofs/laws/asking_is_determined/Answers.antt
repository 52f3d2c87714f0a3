use Rattle.stores.specs.Asking.{longest_ask}
use Rattle.receiver.proofs.SameAsks.{one_ask_most}
use Rattle.receiver.proofs.laws.asking_is_determined.Goals as goal

pub returns : goal.returns
returns c = λ config now old r s v w a b. one_ask_most c.packing_is_determined.ensures.one config now v w old longest_ask r s a b

use Rattle.sender.proofs.SameSteps.{one_answer}
use Rattle.sender.proofs.laws.sending_is_determined.Goals as goal

pub returns : goal.returns
returns c = λ s room old content padding x y v w a b. one_answer s room old content padding v w x y a b

use Rattle.world.proofs.OneAsk.{one_ask}
use Rattle.world.proofs.laws.asks_are_determined.Goals as goal

pub returns : goal.returns
returns c = one_ask c.packing_is_determined.ensures.one

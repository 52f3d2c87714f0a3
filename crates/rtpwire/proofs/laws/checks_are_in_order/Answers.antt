use Rattle.rtpwire.proofs.InOrder.{in_order}
use Rattle.rtpwire.proofs.laws.checks_are_in_order.Goals as goal

pub returns : goal.returns
returns c = in_order

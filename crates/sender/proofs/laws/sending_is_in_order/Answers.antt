use Rattle.sender.proofs.InOrder.{send_in_order}
use Rattle.sender.proofs.laws.sending_is_in_order.Goals as goal

pub returns : goal.returns
returns c = send_in_order

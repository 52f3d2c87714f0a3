use Rattle.sender.proofs.InOrder.{Laws, shared_in_order}
use Rattle.sender.proofs.laws.shared_feedback_is_in_order.Goals as goal

pub returns : goal.returns
returns c =
    let laws : Laws = record { order = c.compound_is_determined.ensures.order; seen = c.compound_is_determined.ensures.seen } in
    λ config old octets answer new fits hears. shared_in_order laws config old octets fits new answer hears

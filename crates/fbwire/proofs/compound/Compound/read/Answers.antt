use Rattle.std.proofs.Common.{arith}
use Rattle.fbwire.proofs.CheckOrder.{datagram_in_order}
use Rattle.fbwire.proofs.Walks.{only_by_walk}
use Rattle.fbwire.proofs.compound.Compound.read.Goals as goal

pub returns-clause-only : goal.returns-clause-only
returns-clause-only c = only_by_walk c.args.octets.now c.walked.result c.walked.ensures

pub returns-clause-order : goal.returns-clause-order
returns-clause-order c = datagram_in_order c.args.octets.now (λ i. omega (arith, c.type_inv.octets i)) c.walked.result c.walked.ensures

use Rattle.std.proofs.Common.{arith}
use Rattle.fbwire.proofs.CheckOrder.{read_in_order}
use Rattle.fbwire.proofs.NackSpelling.{spelled_by_checks, only_by_checks}
use Rattle.fbwire.proofs.nack.NackView.read.Goals as goal

pub returns-clause-spelled : goal.returns-clause-spelled
returns-clause-spelled c =
    spelled_by_checks c.args.octets.now c.checked.result (λ i. omega (arith, c.type_inv.octets i)) c.checked.ensures

pub returns-clause-only : goal.returns-clause-only
returns-clause-only c = only_by_checks c.args.octets.now c.checked.result c.checked.ensures

pub returns-clause-order : goal.returns-clause-order
returns-clause-order c = read_in_order c.args.octets.now c.checked.result c.checked.ensures

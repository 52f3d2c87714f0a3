use Rattle.std.proofs.Common.{arith}
use Rattle.payload_types.proofs.Pairs.{count_is_refused}
use Rattle.payload_types.proofs.types.PayloadTypes.of_octets.Goals as goal

pub returns-then-octets-clause-order : goal.returns-then-octets-clause-order
returns-then-octets-clause-order c = count_is_refused c.args.octets.now (λ odd. omega (arith, odd, c.if-octets-eq1.false)) (omega (arith, c.if-octets.true))

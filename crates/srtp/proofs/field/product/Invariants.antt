use Rattle.std.proofs.Common.{◌≡◌}
use Rattle.srtp.specs.Field.{product_of, times_power}
use Rattle.srtp.proofs.field.product.Given as goal

abbrev pub invariant-loop-i : goal.invariant-loop-i
invariant-loop-i l = record { sum : l.sum ≡ product_of l.i l.a l.b; power : l.power ≡ times_power l.i l.a }

use Rattle.std.proofs.Common.{add-one, refl}
use Rattle.std.proofs.lemmas.Nat.Bits.{shr_and_one}
use Rattle.srtp.specs.Field.{product_of, times_power}
use Rattle.srtp.proofs.field.product.Goals as goal

pub loop-i-init : goal.loop-i-init
unfolding product_of times_power
loop-i-init c = record { sum = refl; power = refl }

pub loop-i-preserved : goal.loop-i-preserved
unfolding product_of times_power
loop-i-preserved c = record {
  sum = rw (add-one, shr_and_one, c.loop-i.invariant.sum, c.loop-i.invariant.power) refl;
  power = rw (add-one, c.xtime-power.ensures, c.loop-i.invariant.power) refl;
}

use Rattle.std.proofs.Common.{add-one, refl}
use Rattle.srtp.specs.Field.{times_power}
use Rattle.srtp.proofs.aes.times_power.Goals as goal

pub loop-step-init : goal.loop-step-init
unfolding times_power
loop-step-init c = refl

pub loop-step-preserved : goal.loop-step-preserved
unfolding times_power
loop-step-preserved c = rw (add-one, c.xtime-power.ensures, c.loop-step.invariant) refl

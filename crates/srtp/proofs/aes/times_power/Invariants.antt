use Rattle.std.proofs.Common.{◌≡◌}
use Rattle.srtp.specs.Field.{times_power}
use Rattle.srtp.proofs.aes.times_power.Given as goal

abbrev pub invariant-loop-step : goal.invariant-loop-step
invariant-loop-step l = l.power ≡ times_power l._step 1

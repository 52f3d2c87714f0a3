use Rattle.std.proofs.Common.{◌≡◌, drop}
use Rattle.gozdrit_relay.specs.Seats.{first_end, sooner}
use Rattle.gozdrit_relay.proofs.seats.first_end.Given as goal

-- what is left of them makes the end of all
abbrev pub invariant-loop-at : goal.invariant-loop-at
invariant-loop-at l = sooner l.first (first_end (drop l.at l.until)) ≡ first_end l.until

use Rattle.gozdrit_relay.specs.Seats.{IsBestOf}
use Rattle.gozdrit_relay.proofs.seats.seat_for.Given as goal

-- the best of those so far
abbrev pub invariant-loop-at : goal.invariant-loop-at
invariant-loop-at l = IsBestOf l.best l.at l.until

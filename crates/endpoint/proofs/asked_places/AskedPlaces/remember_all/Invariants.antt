use Rattle.std.proofs.Common.{◌≡◌, map}
use Rattle.endpoint.specs.Asked.{asked_at, with_places}
use Rattle.endpoint.proofs.asked_places.AskedPlaces.remember_all.Given as goal

-- what is left leads where all of it does
abbrev pub invariant-loop-number : goal.invariant-loop-number
invariant-loop-number l =
    with_places l.self (map (asked_at l.highest) l.number-iterator) ≡ with_places l.fn.self (map (asked_at l.highest) l.fn.numbers)

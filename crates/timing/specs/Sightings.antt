-- What was seen, for a law to say: lists of it have the newest first.
use Rattle.std.specs.Prelude.{ℕ, ◌+◌, ◌<◌, ◌≤◌, List, [], ◌∷◌}
use Rattle.timing.specs.declared.lately.Lately.{Lately}
use Rattle.timing.specs.Lately.{seen_none, seen_at}

-- a number that was seen at this moment
pub record Sighting : Type 0 where
  pub number : ℕ
  pub at : ℕ

-- what is remembered of them
abbrev pub seen_of : List Sighting → Lately
seen_of [] = seen_none
seen_of (s ∷ before) = seen_at (seen_of before) s.number s.at

-- their moments don't fall, up to this one
abbrev pub IsInOrder : List Sighting → (now : ℕ) → Type 0
IsInOrder [] now = Unit {0}
IsInOrder (s ∷ before) now = (s.at ≤ now) × IsInOrder before s.at

-- each of the last ten seconds was no greater than this
abbrev pub AreWithin : List Sighting → (most now : ℕ) → Type 0
AreWithin [] most now = Unit {0}
AreWithin (s ∷ before) most now = (now < s.at + 10000 → s.number ≤ most) × AreWithin before most now

-- each of the last thirty seconds was no greater than this
abbrev pub AreLatelyWithin : List Sighting → (most now : ℕ) → Type 0
AreLatelyWithin [] most now = Unit {0}
AreLatelyWithin (s ∷ before) most now = (now < s.at + 30000 → s.number ≤ most) × AreLatelyWithin before most now

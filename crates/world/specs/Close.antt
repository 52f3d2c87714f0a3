-- The two premises under which a receiver plays rightly, read off the log, the newest entry first.
use Rattle.std.specs.Prelude.{◌≡◌, ◌↔◌, ℕ, Bool, IsTrue, List, [], ◌∷◌, Option, Some, None}
use Rattle.places.specs.Place.{IsWithin}
use Rattle.world.specs.declared.event.Entry.{Entry}
use Rattle.world.specs.declared.event.Entry.TheVariants.{Delivered, Injected}
use Rattle.world.specs.declared.event.End.TheVariants.{Receiver}
use Rattle.world.specs.Labels.{place_of}
use Rattle.world.specs.Reach.{highest_taken}

-- Sequence numbers return every 65536 places. A packet less than 16384 away from the highest place is found
-- at its own place; one that lies from 16384 to 49152 away is refused with 34. From 49153 on, which is
-- 65536 - 16383, its number is that of another place near the highest, and the two can't be told apart.
abbrev pub close_distance : ℕ
close_distance = 49153

abbrev pub IsCloseTo : (highest place : Option ℕ) → Type 0
IsCloseTo None place = Unit {0}
IsCloseTo (Some highest) None = Unit {0}
IsCloseTo (Some highest) (Some place) = IsWithin close_distance place highest

-- Each packet that is delivered lies close to the greatest place taken before it.
abbrev pub IsClose : List Entry → Type 0
IsClose [] = Unit {0}
IsClose (Delivered index label now answer ∷ before) = IsCloseTo (highest_taken before) (place_of label) × IsClose before
IsClose (entry ∷ before) = IsClose before

-- Nothing was injected at the receiver. What is injected elsewhere plays no part.
abbrev pub IsHonest : List Entry → Type 0
IsHonest [] = Unit {0}
IsHonest (Injected Receiver now answer ∷ before) = ⊥
IsHonest (entry ∷ before) = IsHonest before

-- Nothing was injected at all, which is more than honest.
abbrev pub IsUninjected : List Entry → Type 0
IsUninjected [] = Unit {0}
IsUninjected (Injected end now answer ∷ before) = ⊥
IsUninjected (entry ∷ before) = IsUninjected before

-- what a world keeps of its log: the greatest place taken, and whether the log is close and nothing was injected
pub record TellsCloseness (highest : Option ℕ) (holds : Bool) (past : List Entry) : Type 0 where
  pub highest_is : highest ≡ highest_taken past
  pub holds_if : IsTrue holds ↔ (IsClose past × IsUninjected past)

-- How far the deliveries of a log have come. A log is newest first here, so "before" is the tail.
use Rattle.std.specs.Prelude.{◌≡◌, ◌≢◌, ◌⊎◌, ℕ, ◌-◌, max, List, [], ◌∷◌, Option, Some, None}
use Rattle.receiver.specs.Fault.{receive_number}
use Rattle.world.specs.declared.event.Answer.{Answer}
use Rattle.world.specs.declared.event.Answer.TheVariants.{Taken, Refused, Marked, FeedbackRefused}
use Rattle.world.specs.declared.event.Entry.{Entry}
use Rattle.world.specs.declared.event.Entry.TheVariants.{Delivered}
use Rattle.world.specs.Labels.{place_of}

abbrev pub greater : Option ℕ → Option ℕ → Option ℕ
greater highest None = highest
greater None (Some place) = Some place
greater (Some highest) (Some place) = Some (max highest place)

-- The greatest of the sender's places of which a packet was taken.
abbrev pub highest_taken : List Entry → Option ℕ
highest_taken [] = None
highest_taken (Delivered index label now (Taken taken) ∷ before) = greater (highest_taken before) (place_of label)
highest_taken (entry ∷ before) = highest_taken before

abbrev pub or_zero : Option ℕ → ℕ
or_zero None = 0
or_zero (Some place) = place

-- the first number where nothing was taken before, else the later one
abbrev pub first_or : (highest : Option ℕ) → (first later : ℕ) → ℕ
first_or None first later = first
first_or (Some highest) first later = later

-- How far the sender's places lie above the receiver's: by the first packet that was taken.
abbrev pub shift_of : List Entry → ℕ
shift_of [] = 0
shift_of (Delivered index label now (Taken taken) ∷ before) = first_or (highest_taken before) (or_zero (place_of label) - taken.place) (shift_of before)
shift_of (entry ∷ before) = shift_of before

-- A delivery reaches the started receiver, the highest place before it being this: it is taken, or refused
-- by any number but 34, from too far, and 38, which was not asked for.
abbrev pub Reaches : (highest : Option ℕ) → Answer → Type 0
Reaches highest (Taken taken) = Unit {0}
Reaches None (Refused fault) = ⊥
Reaches (Some highest) (Refused fault) = (receive_number fault ≢ 34) × (receive_number fault ≢ 38)
Reaches highest (Marked marked) = ⊥
Reaches highest (FeedbackRefused fault) = ⊥

-- A packet of this place of the sender's had reached the started receiver.
abbrev pub IsReached : List Entry → (place : ℕ) → Type 0
IsReached [] place = ⊥
IsReached (Delivered index label now answer ∷ before) place = ((place_of label ≡ Some place) × Reaches (highest_taken before) answer) ⊎ IsReached before place
IsReached (entry ∷ before) place = IsReached before place

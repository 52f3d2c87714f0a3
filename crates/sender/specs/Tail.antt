-- A sender that falls silent has its last packet retransmitted, so that the receiver notices all that it lacks below
-- that packet's place. (The rule is this project's own.)
use Rattle.std.specs.Prelude.{◌≡◌, ℕ, ◌-◌}
use Rattle.places.specs.Place.{number}
use Rattle.sender.specs.declared.answer.Marked.{Marked}
use Rattle.sender.specs.History.{SenderState, Marks}

-- the sequence number of the newest entry, if there is one
abbrev pub IsLastNumber : SenderState → ℕ → Type 0
IsLastNumber old n = n ≡ number (old.next - 1)

-- The newest entry is marked as feedback that names its sequence number would mark it.
abbrev pub MarksLast : (repeats : ℕ) → SenderState → Marked → SenderState → Type 0
MarksLast repeats old marked new = Marks repeats (IsLastNumber old) old marked.places new

-- How many places are marked, among some places in a row.
use Rattle.std.specs.Prelude.{ℕ, zero, suc, ◌+◌, ◌<◌, ◌≤◌, IsSome, unwrap_or, if◌then◌else◌}
use Rattle.stores.specs.Past.{Past, first_of}
use Rattle.stores.specs.PastByPlace.{is_marked}
use Rattle.sender.specs.History.{SenderState}

-- each place that has an entry is one of so many from the base on
abbrev pub Covers : (base room : ℕ) → SenderState → Type 0
Covers base room sender = (place : ℕ) → IsSome (sender.entries place) → (base ≤ place) × (place < base + room)

abbrev pub marks : (base room : ℕ) → SenderState → ℕ
marks base zero sender = 0
marks base (suc room) sender = (if is_marked (sender.entries (base + room)) then 1 else 0) + marks base room sender

-- the place of the oldest entry, if there is one
abbrev pub first_kept : Past → ℕ
first_kept past = unwrap_or (first_of past) 0

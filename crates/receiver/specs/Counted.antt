-- What an ask finds in a window, and what counting asks for several places leaves in it, slot by slot.
use Rattle.std.specs.Prelude.{◌≡◌, ◌≢◌, ℕ, zero, suc, ◌<◌, ◌≤◌, List, [], length, take, All, IsSomeAnd, if◌then◌else◌}
use Rattle.std.specs.Option.{option_map}
use Rattle.std.specs.List.Sorted.{IsStrictlyIncreasing}
use Rattle.places.specs.Among.{is_among}
use Rattle.fbwire.specs.declared.nack.Pair.{Pair}
use Rattle.fbwire.specs.Packing.{IsPacking, IsNarrow}
use Rattle.stores.specs.Span.{Span, highest_of}
use Rattle.stores.specs.ByPlace.{slot_at}
use Rattle.stores.specs.Asking.{CanBeAsked, asked_slot, due_places}
use Rattle.receiver.specs.Asks.{looked_at}

-- one more ask may be counted for each of these places
abbrev pub CanAllBeAsked : Span → List ℕ → Type 0
CanAllBeAsked s places = All (λ p. IsSomeAnd (slot_at s p) CanBeAsked) places

-- One ask for each of these places was counted, at the moment `now`. Nothing else changed.
pub record CountsAsks (old new : Span) (places : List ℕ) (now : ℕ) : Type 0 where
  pub cursor : new.cursor ≡ old.cursor
  pub highest : highest_of new ≡ highest_of old
  pub slots : (q : ℕ) → slot_at new q ≡ (if is_among places q then option_map (asked_slot now) (slot_at old q) else slot_at old q)
  pub capacity : new.capacity ≡ old.capacity

-- the first due places, at most so many
abbrev pub looked_due : Span → (now delay retry limit most : ℕ) → List ℕ
looked_due s now delay retry limit most = take (looked_at most) (due_places s now delay retry limit)

-- Pairs that cover a beginning of those, which stands at the front of what was lent.
pub record FindsPairs (s : Span) (now delay retry limit most : ℕ) (lent : List ℕ) (pairs : List Pair) (count : ℕ) : Type 0 where
  pub some : looked_due s now delay retry limit most ≢ []
  pub covers : 0 < count
  pub writes : 0 < length pairs
  pub narrow : IsNarrow (looked_due s now delay retry limit most)
  pub packing : IsPacking (looked_due s now delay retry limit most) pairs count
  pub covered : take count lent ≡ take count (looked_due s now delay retry limit most)
  pub within : count ≤ length lent
  pub rising : IsStrictlyIncreasing (take count lent)
  pub askable : CanAllBeAsked s (take count lent)

-- places are covered exactly where one is due
abbrev pub AnswersPairs : Span → (now delay retry limit most : ℕ) → (pairs : List Pair) → (count : ℕ) → (lent : List ℕ) → Type 0
AnswersPairs s now delay retry limit most pairs zero lent = looked_due s now delay retry limit most ≡ []
AnswersPairs s now delay retry limit most pairs (suc count) lent = FindsPairs s now delay retry limit most lent pairs (suc count)

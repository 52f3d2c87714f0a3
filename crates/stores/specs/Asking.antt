-- Which missing places are due to be asked for, how many places are missing, and what an ask leaves.
use Rattle.std.specs.Prelude.{◌≡◌, ◌↔◌, ℕ, zero, suc, ◌+◌, ◌-◌, ◌^◌, ◌<◌, ◌==◌, ◌||◌, ◌&&◌, Bool, true, false, List, [], ◌∷◌, length, slice_get, slice_set, Option, Some, None, IsSomeAnd, if◌then◌else◌, nat_lt, nat_le}
use Rattle.std.specs.List.{filter, range_with_len}
use Rattle.std.specs.Option.{option_map}
use Rattle.stores.specs.declared.slot.Slot.{Slot}
use Rattle.stores.specs.declared.slot.Slot.TheVariants.{Held, Missing}
use Rattle.stores.specs.Span.{Span, highest_of}
use Rattle.stores.specs.ByPlace.{slot_at}

-- How many places one ask names at most: what 64 pairs can name, 17 each.
abbrev pub longest_ask : ℕ
longest_ask = 1088

-- Whether so long has passed since a moment. A moment before it is never long enough after it.
abbrev pub is_long_since : (moment span now : ℕ) → Bool
is_long_since moment span now = nat_le moment now && nat_le span (now - moment)

-- Whether it is time to ask for a missing place: where it never was asked for, once the delay has passed since it was noticed,
-- else once `retry` has since the last ask. With no delay any moment is time for the first ask.
abbrev pub is_time : (now delay retry noticed asks last : ℕ) → Bool
is_time now delay retry noticed asks last =
    if asks == 0 then delay == 0 || is_long_since noticed delay now else is_long_since last retry now

-- Whether a place with this slot is due at the moment `now`: it is missing, it was asked for fewer times than the limit, and
-- it is time.
abbrev pub is_due : (now delay retry limit : ℕ) → Option Slot → Bool
is_due now delay retry limit (Some (Missing noticed asks last)) = nat_lt asks limit && is_time now delay retry noticed asks last
is_due now delay retry limit (Some (Held content)) = false
is_due now delay retry limit None = false

-- whether a place with this slot is missing
abbrev pub is_missing : Option Slot → Bool
is_missing (Some (Missing noticed asks last)) = true
is_missing (Some (Held content)) = false
is_missing None = false

abbrev pub places_from : Option ℕ → ℕ → List ℕ
places_from None count = []
places_from (Some k) count = range_with_len k count

-- the places of a window in rising order: those from the cursor to the highest place
abbrev pub places_of : Span → List ℕ
places_of s = places_from s.cursor (length s.slots)

-- the due places in rising order
abbrev pub due_places : (s : Span) (now delay retry limit : ℕ) → List ℕ
due_places s now delay retry limit = filter (λ q. is_due now delay retry limit (slot_at s q)) (places_of s)

-- whether a moment has come; None never does
abbrev pub has_come : Option ℕ → (now : ℕ) → Bool
has_come None now = false
has_come (Some moment) now = nat_le moment now

-- whether one of the numbers below n passes a test
abbrev pub any_below : (ℕ → Bool) → ℕ → Bool
any_below test zero = false
any_below test (suc n) = any_below test n || test n

-- A place is due at each moment from this one on, and at none before it. With None there is no such moment of 64 bits.
abbrev pub IsNextDue : Span → (delay retry limit : ℕ) → Option ℕ → Type 0
IsNextDue s delay retry limit moment = (now : ℕ) → now < 2 ^ 64 → (due_places s now delay retry limit ≡ []) ↔ (has_come moment now ≡ false)

-- the missing places in rising order
abbrev pub missing_places : Span → List ℕ
missing_places s = filter (λ q. is_missing (slot_at s q)) (places_of s)

-- one more ask may be counted
abbrev pub CanBeAsked : Slot → Type 0
CanBeAsked (Held content) = ⊥
CanBeAsked (Missing noticed asks last) = asks < 255

-- the slot after an ask at the moment `now`
abbrev pub asked_slot : ℕ → Slot → Slot
asked_slot now (Held content) = Held content
asked_slot now (Missing noticed asks last) = Missing noticed (asks + 1) now

-- the slots after an ask for the one at the index i, which is as given
abbrev pub asked_at : List Slot → ℕ → ℕ → Option Slot → List Slot
asked_at slots i now None = slots
asked_at slots i now (Some slot) = slice_set slots i (asked_slot now slot)

abbrev pub asked_slots : Option ℕ → List Slot → ℕ → ℕ → List Slot
asked_slots None slots p now = slots
asked_slots (Some k) slots p now = asked_at slots (p - k) now (slice_get slots (p - k))

-- the window after an ask for the place p
abbrev pub asked : Span → ℕ → ℕ → Span
asked s p now = record { cursor = s.cursor; slots = asked_slots s.cursor s.slots p now; capacity = s.capacity }

-- one more ask may be counted for each of these places, one after the other
abbrev pub CanEachBeAsked : Span → List ℕ → (now : ℕ) → Type 0
CanEachBeAsked s [] now = Unit
CanEachBeAsked s (p ∷ places) now = IsSomeAnd (slot_at s p) CanBeAsked × CanEachBeAsked (asked s p now) places now

-- the window after an ask for each of these places
abbrev pub asked_each : Span → List ℕ → (now : ℕ) → Span
asked_each s [] now = s
asked_each s (p ∷ places) now = asked_each (asked s p now) places now

-- An ask for the place p was counted: its slot has one more ask, the last one at the moment `now`, and nothing
-- else changed.
pub record CountsAsk (old new : Span) (p now : ℕ) : Type 0 where
  pub cursor : new.cursor ≡ old.cursor
  pub highest : highest_of new ≡ highest_of old
  pub slots : (q : ℕ) → slot_at new q ≡ (if q == p then option_map (asked_slot now) (slot_at old q) else slot_at old q)
  pub capacity : new.capacity ≡ old.capacity

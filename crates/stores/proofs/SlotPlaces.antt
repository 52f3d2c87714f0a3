-- What a window has at each place, and what is left of it when its front is taken out.
use Rattle.std.proofs.Common.{◌≡◌, ◌≢◌, ◌↔◌, ℕ, ◌+◌, ◌^◌, ◌<◌, ◌≤◌, true, List, length, get_or, slice_get, slice_set, length-set, Option, Some, None, IsSome, sym, subst, ◌∙◌, refl, arith}
use Rattle.std.specs.Prelude.{IsSomeAnd}
use Rattle.std.proofs.lemmas.Bool.Decides.{nat_tests}
use Rattle.std.proofs.lemmas.Grind.{common_steps}
use Rattle.std.proofs.lemmas.List.{nil_from_length}
use Rattle.std.proofs.lemmas.Option.{gets, slice_get_read}
use Rattle.std.specs.Option.{ForSome}
use Rattle.stores.specs.Asking.{asked_slot, asked_at}
use Rattle.stores.specs.declared.slot.Slot.{Slot}
use Rattle.stores.specs.Span.{Span, IsSpan, highest_of, front_of, without_front}
use Rattle.stores.specs.ByPlace.{slot_from, slot_at, slot_at_cursor, is_above, IsInside, LosesFront}
use Rattle.stores.proofs.Lookup.{same_lists, slice_get-set_other}

-- the places with a slot are those from the cursor to the highest place
pub has_slot : (s : Span) (q : ℕ) → IsSpan s → IsSome (slot_at s q) ↔ IsInside s q
has_slot s q is = grind (arith, common_steps, gets)

-- a place below the cursor or above the highest place has no slot
pub none_below : (s : Span) (k q : ℕ) → IsSpan s → s.cursor ≡ Some k → q < k → slot_at s q ≡ None
none_below s k q is started below = grind (arith, common_steps)

pub none_above : (s : Span) (q : ℕ) → IsSpan s → is_above (highest_of s) q ≡ true → slot_at s q ≡ None
none_above s q is above = grind (arith, common_steps, gets)

-- where the cursor and the highest place lie
pub ends_within : (s : Span) (k h : ℕ) → IsSpan s → s.cursor ≡ Some k → highest_of s ≡ Some h → (k ≤ h + 1) × (h < k + s.capacity) × (h < 2 ^ 48)
ends_within s k h is started highest =
    let ends = is.started k started in
    let room = is.room in
    let nonzero = is.nonzero in
    grind (arith, common_steps)

-- the slot at an index is that of the place as far above the cursor
pub slot_from_index : (k : ℕ) (slots : List Slot) (i : ℕ) → slot_from k slots (k + i) ≡ slice_get slots i
slot_from_index k slots i = grind (arith, nat_tests)

-- the slot that a loop over the slots reads
pub slot_of_index : (k : ℕ) (slots : List Slot) (i : ℕ) (slot : Slot) → i < length slots → slot ≡ get_or slots i slot → slot_from k slots (k + i) ≡ Some slot
slot_of_index k slots i slot l e = slot_from_index k slots i ∙ slice_get_read slots (length slots) i slot refl l e

same_slots : (cursor : Option ℕ) (xs ys : List Slot) → (cursor ≡ None → xs ≡ ys) → ((q : ℕ) → slot_at_cursor cursor ys q ≡ slot_at_cursor cursor xs q) → ys ≡ xs
same_slots None xs ys none e = sym (none refl)
same_slots (Some k) xs ys none e = same_lists xs ys (λ i. sym (slot_from_index k ys i) ∙ e (k + i) ∙ slot_from_index k xs i)

-- the cursor, the capacity and the slots at all places are all that there is of a window
pub same_spans : (s t : Span) → IsSpan s → IsSpan t → t.cursor ≡ s.cursor → t.capacity ≡ s.capacity → ((q : ℕ) → slot_at t q ≡ slot_at s q) → t ≡ s
same_spans s t is it cursor capacity slots =
    let each : (q : ℕ) → slot_at_cursor s.cursor t.slots q ≡ slot_at_cursor s.cursor s.slots q =
    (λ q. let P : Option ℕ → Type 0 = λ c. slot_at_cursor c t.slots q ≡ slot_at s q in subst P cursor (slots q)) in
    let none : s.cursor ≡ None → s.slots ≡ t.slots = λ e. nil_from_length s.slots (is.unstarted e) ∙ sym (nil_from_length t.slots (it.unstarted (cursor ∙ e))) in
    let same = same_slots s.cursor s.slots t.slots none each in
    λ i. record { cursor = cursor i; slots = same i; capacity = capacity i }

-- the front is the slot of the cursor
pub front_is_at_cursor : (s : Span) (k : ℕ) → s.cursor ≡ Some k → front_of s ≡ slot_at s k
front_is_at_cursor s k started = grind (arith, common_steps)

-- taking the front out, place by place
pub take_front_by_place : (old new : Span) (slot : Slot) → IsSpan old → front_of old ≡ Some slot → new ≡ without_front old → IsSomeAnd old.cursor (LosesFront old slot new)
take_front_by_place old new slot is front rest = grind (arith, common_steps)

-- an ask for one slot leaves the others
pub asked_long : (slots : List Slot) (i now : ℕ) (o : Option Slot) → length (asked_at slots i now o) ≡ length slots
asked_long slots i now None = refl
asked_long slots i now (Some slot) = length-set slots i (asked_slot now slot)

pub asked_others : (slots : List Slot) (i now : ℕ) (o : Option Slot) (p : ℕ) → p ≢ i → slice_get (asked_at slots i now o) p ≡ slice_get slots p
asked_others slots i now None p apart = refl
asked_others slots i now (Some slot) p apart = slice_get-set_other slots i p (asked_slot now slot) apart

-- a started window keeps its ends when a slot is replaced
pub started_set : (cursor : Option ℕ) (slots : List Slot) (i : ℕ) (slot : Slot) → ForSome cursor (λ k. (0 < k + length slots) × (k + length slots ≤ 2 ^ 48)) →
    ForSome cursor (λ k. (0 < k + length (slice_set slots i slot)) × (k + length (slice_set slots i slot) ≤ 2 ^ 48))
started_set cursor slots i slot started k e = let at = started k e in let same = length-set slots i slot in (omega arith, omega arith)

-- What is due, what is missing and what an ask leaves, place by place.
use Rattle.std.proofs.Common.{◌≡◌, ℕ, ◌+◌, ◌-◌, ◌<◌, ◌≤◌, ◌==◌, Bool, true, false, List, [], ◌∷◌, length, slice_get, slice_set, Option, Some, None, IsSomeAnd, nat_lt, cond, ap, sym, subst, ◌∙◌, refl, arith, ltb-false, length-set}
use Rattle.std.specs.Prelude.{if◌then◌else◌}
use Rattle.std.specs.Option.{option_map}
use Rattle.std.specs.List.{filter, range_with_len}
use Rattle.std.proofs.lemmas.Bool.{cond_both, eqb-true, eqb-false}
use Rattle.std.proofs.lemmas.Bool.Decides.{nat_tests}
use Rattle.std.proofs.lemmas.Option.{same_Some, slice_get_past, slice_get_within}
use Rattle.stores.specs.declared.slot.Slot.{Slot}
use Rattle.stores.specs.declared.slot.Slot.TheVariants.{Held, Missing}
use Rattle.stores.specs.Span.{Span, IsSpan, highest_of}
use Rattle.stores.specs.ByPlace.{slot_from, slot_at, slot_at_cursor}
use Rattle.stores.specs.PlaceLists.{Lists}
use Rattle.stores.specs.Asking.{is_due, is_missing, places_of, due_places, missing_places, CanBeAsked, CanEachBeAsked, asked_slot, asked_at, asked, asked_each, CountsAsk}
use Rattle.stores.proofs.Lookup.{slice_get-set_same, slice_get-set_other}
use Rattle.stores.proofs.Listed.{lists_passing}

-- a place whose slot passes a test that no slot's lack passes is one of the run
inside : (test : Option Slot → Bool) (k : ℕ) (slots : List Slot) (q : ℕ) → test None ≡ false → test (slot_from k slots q) ≡ true → (k ≤ q) × (q < k + length slots)
inside test k slots q none passes =
    let past = slice_get_past slots (q - k) in
    grind (arith, nat_tests, past)

lists_from : (test : Option Slot → Bool) (cursor : Option ℕ) (slots : List Slot) (capacity : ℕ) → test None ≡ false →
    let s : Span = record { cursor = cursor; slots = slots; capacity = capacity } in Lists (filter (λ q. test (slot_at s q)) (places_of s)) (λ q. test (slot_at s q))
lists_from test None slots capacity none = record { rises = λ i l. absurd (omega arith); each = λ q. sym none }
lists_from test (Some k) slots capacity none = lists_passing (λ q. test (slot_from k slots q)) k (length slots) (λ q passes. inside test k slots q none passes)

pub lists_due : (s : Span) (now delay retry limit : ℕ) → Lists (due_places s now delay retry limit) (λ q. is_due now delay retry limit (slot_at s q))
lists_due s now delay retry limit = lists_from (is_due now delay retry limit) s.cursor s.slots s.capacity refl

pub lists_missing : (s : Span) → Lists (missing_places s) (λ q. is_missing (slot_at s q))
lists_missing s = lists_from is_missing s.cursor s.slots s.capacity refl

-- the places from the cursor to the highest
pub places_between : (s : Span) (k h : ℕ) → IsSpan s → s.cursor ≡ Some k → highest_of s ≡ Some h → places_of s ≡ range_with_len k (h + 1 - k)
places_between s k h is started highest =
    let some = (is.started k started).0 in
    let last = same_Some (k + length s.slots - 1) h (rw started at highest) in
    let count : length s.slots ≡ h + 1 - k = omega arith in
    rw started (ap (range_with_len k) count)

-- a place that is due may be asked for
pub due_may_be_asked : (now delay retry limit : ℕ) (o : Option Slot) → limit < 256 → is_due now delay retry limit o ≡ true → IsSomeAnd o CanBeAsked
due_may_be_asked now delay retry limit None l e = absurd (cc)
due_may_be_asked now delay retry limit (Some (Held content)) l e = absurd (cc)
due_may_be_asked now delay retry limit (Some (Missing noticed asks last)) l e = grind (arith, nat_tests)

-- what an ask leaves at each index, where the slot at i is the one asked for
asked_at_index : (slots : List Slot) (i j now : ℕ) (slot : Slot) → slice_get slots i ≡ Some slot →
    slice_get (slice_set slots i (asked_slot now slot)) j ≡ (if j == i then option_map (asked_slot now) (slice_get slots j) else slice_get slots j)
asked_at_index slots i j now slot e =
    let same = slice_get-set_same slots i (asked_slot now slot) (slice_get_within slots i slot e) in
    cond_both (j == i) _ _ (λ z. slice_get (slice_set slots i (asked_slot now slot)) j ≡ z)
    (λ t. let at : j ≡ i = eqb-true j i t in rw at (same ∙ sym (ap (option_map (asked_slot now)) e)))
    (λ t. slice_get-set_other slots i j (asked_slot now slot) (eqb-false j i t))

by_place : (k : ℕ) (xs ys : List Slot) (p q : ℕ) (f : Option Slot → Option Slot) → k ≤ p → f None ≡ None →
    slice_get xs (q - k) ≡ (if q - k == p - k then f (slice_get ys (q - k)) else slice_get ys (q - k)) →
    slot_from k xs q ≡ (if q == p then f (slot_from k ys q) else slot_from k ys q)
by_place k xs ys p q f l none e = grind (arith, nat_tests)

reached : (k p : ℕ) (o : Option Slot) (b : Bool) → nat_lt p k ≡ b → IsSomeAnd (cond b None o) CanBeAsked → (k ≤ p) × IsSomeAnd o CanBeAsked
reached k p o true e can = absurd can
reached k p o false e can = (ltb-false p k e, can)

counts_at : (k : ℕ) (slots : List Slot) (capacity p now : ℕ) (o : Option Slot) → k ≤ p → slice_get slots (p - k) ≡ o → IsSomeAnd o CanBeAsked →
    CountsAsk (record { cursor = Some k; slots = slots; capacity = capacity }) (record { cursor = Some k; slots = asked_at slots (p - k) now o; capacity = capacity }) p now
counts_at k slots capacity p now None l e can = absurd can
counts_at k slots capacity p now (Some slot) l e can =
    record {
      cursor = refl;
      highest = ap (λ n. Some (k + n - 1)) (length-set slots (p - k) (asked_slot now slot));
      slots = λ q. by_place k _ slots p q (option_map (asked_slot now)) l refl (asked_at_index slots (p - k) (q - k) now slot e);
      capacity = refl;
    }

counts_from : (cursor : Option ℕ) (slots : List Slot) (capacity p now : ℕ) → let s : Span = record { cursor = cursor; slots = slots; capacity = capacity } in
    IsSomeAnd (slot_at s p) CanBeAsked → CountsAsk s (asked s p now) p now
counts_from None slots capacity p now can = absurd can
counts_from (Some k) slots capacity p now can =
    let here = reached k p (slice_get slots (p - k)) (nat_lt p k) refl can in
    counts_at k slots capacity p now (slice_get slots (p - k)) here.0 refl here.1

-- what a counted ask leaves at each place
pub count_ask_by_place : (old new : Span) (p now : ℕ) → IsSomeAnd (slot_at old p) CanBeAsked → new ≡ asked old p now → CountsAsk old new p now
count_ask_by_place old new p now can e = rw e (counts_from old.cursor old.slots old.capacity p now can)

-- no place of a window that was not started may be asked for
pub none_to_ask : (s : Span) (places : List ℕ) (now : ℕ) → s.cursor ≡ None → CanEachBeAsked s places now → s ≡ asked_each s places now
none_to_ask s [] now none can = refl
none_to_ask s (p ∷ places) now none can =
    let nowhere : slot_at s p ≡ None = ap (λ c. slot_at_cursor c s.slots p) none in
    absurd (subst (λ (o : Option Slot). IsSomeAnd o CanBeAsked) nowhere can.0)

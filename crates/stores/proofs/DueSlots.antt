-- The due places of slots, of which the first is that of the place k, from an index on: how a loop meets them.
use Rattle.std.proofs.Common.{◌≡◌, ℕ, zero, suc, ◌+◌, ◌-◌, ◌<◌, ◌≤◌, ◌++◌, List, [], ◌∷◌, length, min, take, get_or, slice_get, Bool, true, false, Option, Some, None, nat_le, leb-true, leb-false, ap, sym, ◌∙◌, refl, arith}
use Rattle.std.specs.List.{filter, range_with_len}
use Rattle.std.proofs.lemmas.List.{take_at, take_all, append-nil}
use Rattle.std.proofs.lemmas.Bool.{cond_both}
use Rattle.std.specs.Option.{option_map, IsSome}
use Rattle.stores.specs.declared.slot.SlotRef.{SlotRef}
use Rattle.stores.specs.Lent.{slot_of}
use Rattle.stores.specs.declared.slot.Slot.{Slot}
use Rattle.stores.specs.declared.slot.Slot.TheVariants.{Held, Missing}
use Rattle.stores.specs.ByPlace.{slot_from}
use Rattle.stores.specs.Asking.{is_due, is_missing, due_places, longest_ask}
use Rattle.stores.specs.Due.{due_from_first, due_rest}
use Rattle.stores.proofs.SlotPlaces.{slot_from_index, slot_of_index}
use Rattle.stores.proofs.Passing.{passing_yes, passing_no, passing_none}

-- a slot that is not missing is not due
pub not_due : (now delay retry limit : ℕ) (o : Option Slot) → is_missing o ≡ false → is_due now delay retry limit o ≡ false
not_due now delay retry limit None e = refl
not_due now delay retry limit (Some (Held content)) e = refl
not_due now delay retry limit (Some (Missing noticed asks last)) e = absurd (cc)

-- a slot within is lent
pub lent_within : (lent : Option SlotRef) (slots : List Slot) (i : ℕ) → option_map slot_of lent ≡ slice_get slots i → i < length slots → IsSome lent
lent_within (Some x) slots i e within = refl
lent_within None [] i e within = absurd (omega arith)
lent_within None (x ∷ slots) zero e within = absurd cc
lent_within None (x ∷ slots) (suc i) e within = lent_within None slots i e (omega arith)

-- a slot is not due where its block's moment has not come
pub not_due_so_soon : (due come : Bool) → come ≡ false → (due ≡ true → come ≡ true) → due ≡ false
not_due_so_soon true come later is = sym (is refl) ∙ later
not_due_so_soon false come later is = refl

module _ (now delay retry limit k : ℕ) (slots : List Slot) where
  abbrev due_at : ℕ → Bool
  due_at q = is_due now delay retry limit (slot_from k slots q)

  abbrev pub due_left : ℕ → List ℕ
  due_left i = due_rest now delay retry limit k slots i

  -- all are left at first
  pub due_left_whole : due_left 0 ≡ filter (λ q. is_due now delay retry limit (slot_from k slots q)) (range_with_len k (length slots))
  unfolding due_rest
  due_left_whole =
      let first : k + 0 ≡ k = omega arith in
      let all : length slots - 0 ≡ length slots = omega arith in
      rw (first, all) refl

  -- the slot at an index is due, or it isn't
  pub due_left_take : (i : ℕ) → i < length slots → is_due now delay retry limit (slice_get slots i) ≡ true → due_left i ≡ (k + i) ∷ due_left (i + 1)
  unfolding due_rest
  due_left_take i l due = passing_yes due_at (k + i) (k + (i + 1)) (length slots - i) (length slots - (i + 1)) (omega arith) (omega arith) (ap (is_due now delay retry limit) (slot_from_index k slots i) ∙ due)

  pub due_left_leave : (i : ℕ) → i < length slots → is_due now delay retry limit (slice_get slots i) ≡ false → due_left i ≡ due_left (i + 1)
  unfolding due_rest
  due_left_leave i l off = passing_no due_at (k + i) (k + (i + 1)) (length slots - i) (length slots - (i + 1)) (omega arith) (omega arith) (ap (is_due now delay retry limit) (slot_from_index k slots i) ∙ off)

  -- as it was read
  pub due_left_yes : (i : ℕ) (slot : Slot) → i < length slots → slot ≡ get_or slots i slot → is_due now delay retry limit (Some slot) ≡ true → due_left i ≡ (k + i) ∷ due_left (i + 1)
  due_left_yes i slot l e due = due_left_take i l (sym (ap (is_due now delay retry limit) (slot_from_index k slots i)) ∙ ap (is_due now delay retry limit) (slot_of_index k slots i slot l e) ∙ due)

  pub due_left_no : (i : ℕ) (slot : Slot) → i < length slots → slot ≡ get_or slots i slot → is_due now delay retry limit (Some slot) ≡ false → due_left i ≡ due_left (i + 1)
  due_left_no i slot l e due = due_left_leave i l (sym (ap (is_due now delay retry limit) (slot_from_index k slots i)) ∙ ap (is_due now delay retry limit) (slot_of_index k slots i slot l e) ∙ due)

  -- none is left at the end
  pub due_left_end : (i : ℕ) → length slots ≤ i → due_left i ≡ []
  unfolding due_rest
  due_left_end i end = passing_none due_at (k + i) (length slots - i) (omega arith)

  -- an end above them is theirs
  pub due_left_within : (i : ℕ) → due_left (min i (length slots)) ≡ due_left i
  due_left_within i =
      cond_both (nat_le i (length slots)) true false (λ _. due_left (min i (length slots)) ≡ due_left i)
      (λ e. let within : i ≤ length slots = leb-true _ _ e in ap due_left (omega arith))
      (λ e. let past : length slots < i = leb-false _ _ e in due_left_end (min i (length slots)) (omega arith) ∙ sym (due_left_end i (omega arith)))

  -- slots that are not missing are passed
  pub due_left_skip : (i n j : ℕ) → j ≡ i + n → j ≤ length slots → ((p : ℕ) → i ≤ p → p < j → is_missing (slice_get slots p) ≡ false) → due_left i ≡ due_left j
  due_left_skip i zero j at within none = ap due_left (omega arith)
  due_left_skip i (suc n) j at within none =
      due_left_leave i (omega arith) (not_due now delay retry limit (slice_get slots i) (none i (omega arith) (omega arith))) ∙ due_left_skip (i + 1) n j (omega arith) within (λ p l u. none p (omega arith) u)

  -- slots that are not due are passed
  pub due_left_past : (i n j : ℕ) → j ≡ i + n → j ≤ length slots → ((p : ℕ) → i ≤ p → p < j → is_due now delay retry limit (slice_get slots p) ≡ false) → due_left i ≡ due_left j
  due_left_past i zero j at within none = ap due_left (omega arith)
  due_left_past i (suc n) j at within none =
      due_left_leave i (omega arith) (none i (omega arith) (omega arith)) ∙ due_left_past (i + 1) n j (omega arith) within (λ p l u. none p (omega arith) u)

  -- none is left where no slot is missing from there on
  pub due_left_none : (i : ℕ) → ((p : ℕ) → i ≤ p → p < length slots → is_missing (slice_get slots p) ≡ false) → due_left i ≡ []
  due_left_none i none =
      cond_both (nat_le i (length slots)) true false (λ _. due_left i ≡ [])
      (λ e. let within : i ≤ length slots = leb-true _ _ e in due_left_skip i (length slots - i) (length slots) (omega arith) (omega arith) none ∙ due_left_end (length slots) (omega arith))
      (λ e. let past : length slots < i = leb-false _ _ e in due_left_end i (omega arith))

-- as many were found as are wanted, or all
pub found_full : (limit : ℕ) (xs rest all : List ℕ) → xs ++ rest ≡ all → length xs ≡ limit → xs ≡ take limit all
found_full limit xs rest all e full = sym (ap (take limit) (sym e) ∙ take_at xs rest limit full)

pub found_all : (limit : ℕ) (xs rest all : List ℕ) → xs ++ rest ≡ all → rest ≡ [] → length xs ≤ limit → xs ≡ take limit all
found_all limit xs rest all e none fits =
    let whole : xs ≡ all = sym (append-nil xs) ∙ ap (λ ys. xs ++ ys) (sym none) ∙ e in
    sym (ap (take limit) (sym whole) ∙ take_all limit xs fits)

-- the due places of a started window are those of its slots
pub due_of_started : (cursor : Option ℕ) (slots : List Slot) (capacity now delay retry limit k : ℕ) → cursor ≡ Some k →
    due_places (record { cursor = cursor; slots = slots; capacity = capacity }) now delay retry limit ≡ due_from_first now delay retry limit k slots
due_of_started cursor slots capacity now delay retry limit k started = rw started refl

-- the due places of a window and those of its slots, as they were read
pub due_of_slots : (cursor : Option ℕ) (slots read : List Slot) (capacity now delay retry limit k : ℕ) (xs : List ℕ) → cursor ≡ Some k → read ≡ slots →
    xs ≡ take longest_ask (filter (λ q. is_due now delay retry limit (slot_from k read q)) (range_with_len k (length read))) →
    xs ≡ take longest_ask (due_places (record { cursor = cursor; slots = slots; capacity = capacity }) now delay retry limit)
due_of_slots cursor slots read capacity now delay retry limit k xs started same e =
    rw started (e ∙ ap (λ ys. take longest_ask (filter (λ q. is_due now delay retry limit (slot_from k ys q)) (range_with_len k (length ys)))) same)

-- so many of so many are the lesser number of them
pub take_lesser : (m n k : ℕ) (xs : List ℕ) → k ≡ min m n → take m (take n xs) ≡ take k xs
take_lesser zero n zero xs e = refl
take_lesser zero n (suc k) xs e = absurd (omega arith)
take_lesser (suc m) zero zero xs e = refl
take_lesser (suc m) zero (suc k) xs e = absurd (omega arith)
take_lesser (suc m) (suc n) zero xs e = absurd (omega arith)
take_lesser (suc m) (suc n) (suc k) [] e = refl
take_lesser (suc m) (suc n) (suc k) (x ∷ xs) e = ap (λ ys. x ∷ ys) (take_lesser m n k xs (omega arith))

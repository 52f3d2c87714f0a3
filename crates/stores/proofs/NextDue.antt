-- The least moment at which a slot is due: how a loop meets it, and what it says of places.
use Rattle.std.proofs.Common.{◌≡◌, ℕ, zero, suc, ◌+◌, ◌-◌, ◌^◌, ◌<◌, List, [], length, slice_get, Bool, true, false, Option, Some, None, ap, sym, ◌∙◌, refl, arith, ⊎_elim}
use Rattle.std.specs.Option.{ForNone}
use Rattle.std.proofs.lemmas.Bool.{cases_eq, cases_Bool, or_parts, or_from}
use Rattle.stores.proofs.Passing.{passing, passing_yes, passing_no, passing_none}
use Rattle.stores.specs.declared.slot.Slot.{Slot}
use Rattle.stores.specs.ByPlace.{slot_from}
use Rattle.stores.specs.Asking.{is_due, has_come, any_below, IsNextDue}
use Rattle.stores.proofs.SlotPlaces.{slot_from_index}

-- where none passes, no number does
none_below : (f : ℕ → Bool) (n : ℕ) → any_below f n ≡ false → (i : ℕ) → i < n → f i ≡ false
none_below f zero e i l = absurd (omega arith)
none_below f (suc n) e i l =
    let parts = or_parts (any_below f n) (f n) e in
    ⊎_elim (λ (here : i ≡ n). ap f here ∙ parts.1) (λ other. none_below f n parts.0 i (omega (arith, other))) (cases_eq i n)

all_below : (f : ℕ → Bool) (n : ℕ) → ((i : ℕ) → i < n → f i ≡ false) → any_below f n ≡ false
all_below f zero none = refl
all_below f (suc n) none = or_from (any_below f n) (f n) (all_below f n (λ i l. none i (omega arith))) (none n (omega arith))

-- nothing of a run passes where none of its places does
nothing_passes : (test : ℕ → Bool) (a n : ℕ) → passing test a n ≡ [] → (i : ℕ) → i < n → test (a + i) ≡ false
nothing_passes test a zero e i l = absurd (omega arith)
nothing_passes test a (suc n) e i l =
    ⊎_elim
    (λ (is : test a ≡ true). let first = passing_yes test a (a + 1) (suc n) n refl refl is in absurd (cc))
    (λ (is : test a ≡ false).
    let rest : passing test (a + 1) n ≡ [] = sym (passing_no test a (a + 1) (suc n) n refl refl is) ∙ e in
    ⊎_elim
    (λ (here : i ≡ 0). let at : a + i ≡ a = omega arith in ap test at ∙ is)
    (λ other. let at : a + i ≡ a + 1 + (i - 1) = omega (arith, other) in ap test at ∙ nothing_passes test (a + 1) n rest (i - 1) (omega (arith, other)))
    (cases_eq i 0))
    (cases_Bool (test a))

passes_nothing : (test : ℕ → Bool) (a n : ℕ) → ((i : ℕ) → i < n → test (a + i) ≡ false) → passing test a n ≡ []
passes_nothing test a zero none = passing_none test a 0 refl
passes_nothing test a (suc n) none =
    let at : a + 0 ≡ a = omega arith in
    passing_no test a (a + 1) (suc n) n refl refl (ap test (sym at) ∙ none 0 (omega arith))
    ∙ passes_nothing test (a + 1) n (λ i l. let next : a + 1 + i ≡ a + (i + 1) = omega arith in ap test next ∙ none (i + 1) (omega arith))

-- the moment of the slots is that of the window
pub next_of_slots : (cursor : Option ℕ) (slots : List Slot) (capacity delay retry limit : ℕ) (moment : Option ℕ) → ForNone cursor (length slots ≡ 0) →
    ((now : ℕ) → now < 2 ^ 64 → has_come moment now ≡ any_below (λ i. is_due now delay retry limit (slice_get slots i)) (length slots)) →
    IsNextDue (record { cursor = cursor; slots = slots; capacity = capacity }) delay retry limit moment
next_of_slots None slots capacity delay retry limit moment none is now fits =
    (λ _. is now fits ∙ ap (any_below (λ i. is_due now delay retry limit (slice_get slots i))) (none refl), λ _. refl)
next_of_slots (Some k) slots capacity delay retry limit moment none is now fits =
    let test : ℕ → Bool = λ i. is_due now delay retry limit (slice_get slots i) in
    let due : ℕ → Bool = λ q. is_due now delay retry limit (slot_from k slots q) in (
      λ empty. is now fits ∙ all_below test (length slots) (λ i l. sym (ap (is_due now delay retry limit) (slot_from_index k slots i)) ∙ nothing_passes due k (length slots) empty i l),
      λ never. passes_nothing due k (length slots) (λ i l. ap (is_due now delay retry limit) (slot_from_index k slots i) ∙ none_below test (length slots) (sym (is now fits) ∙ never) i l),
    )

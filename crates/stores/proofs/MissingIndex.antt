-- The index of the missing slots, when slots come, go and change.
use Rattle.std.proofs.Common.{◌≡◌, ℕ, zero, suc, ◌+◌, ◌<◌, ◌≤◌, ◌==◌, ◌++◌, Bool, true, false, List, [], ◌∷◌, length, take, drop, replicate, slice_get, slice_set, nat_lt, Option, Some, None, ap, sym, ◌∙◌, refl, arith, length-append}
use Rattle.std.specs.Prelude.{if◌then◌else◌, IsSomeAnd}
use Rattle.std.specs.List.{filter}
use Rattle.std.proofs.lemmas.List.{length-take-le, take-append-drop}
use Rattle.std.proofs.lemmas.List.Elements.{filter-append}
use Rattle.std.proofs.lemmas.Option.{same_Some, slice_get_past, slice_get_within}
use Rattle.stores.specs.declared.slot.Slot.{Slot}
use Rattle.stores.specs.declared.slot.Slot.TheVariants.{Held, Missing}
use Rattle.stores.specs.Asking.{is_missing, CanBeAsked, asked_at}
use Rattle.stores.specs.Bits.{bits_of, is_member, size_of, is_between, members_below, IsSetOf}
use Rattle.stores.specs.Index.{count_missing, IsIndex}
use Rattle.stores.proofs.SetOfItems.{set_after_change, set_after_same, set_after_drop, set_after_drops, set_after_push, set_after_add, set_after_adds}
use Rattle.stores.proofs.Passing.{passing_count}
use Rattle.stores.proofs.Lookup.{slice_get-append_left}

weight : Bool → ℕ
weight true = 1
weight false = 0

counted_first : (x : Slot) (xs : List Slot) → count_missing (x ∷ xs) ≡ weight (is_missing (Some x)) + count_missing xs
unfolding weight
counted_first (Held content) xs = omega arith
counted_first (Missing noticed asks last) xs = omega arith

counted_push : (xs : List Slot) (x : Slot) → count_missing (xs ++ x ∷ []) ≡ count_missing xs + weight (is_missing (Some x))
counted_push [] x = let one = counted_first x [] in omega arith
counted_push (y ∷ xs) x =
    let rest = counted_push xs x in
    let before = counted_first y xs in
    let after = counted_first y (xs ++ x ∷ []) in
    omega arith

counted_set : (xs : List Slot) (i : ℕ) (x y : Slot) → slice_get xs i ≡ Some y → count_missing (slice_set xs i x) + weight (is_missing (Some y)) ≡ count_missing xs + weight (is_missing (Some x))
counted_set [] i x y e = absurd (cc)
counted_set (z ∷ xs) zero x y e =
    let same = ap (λ slot. weight (is_missing (Some slot))) (same_Some z y e) in
    let before = counted_first z xs in
    let after = counted_first x xs in
    omega arith
counted_set (z ∷ xs) (suc i) x y e =
    let rest = counted_set xs i x y e in
    let before = counted_first z xs in
    let after = counted_first z (slice_set xs i x) in
    omega arith

-- what is counted of one position, by whether it was a member
if_member : (a b : ℕ) (m c : Bool) → m ≡ c → a + (if m then 1 else 0) ≡ b → a + weight c ≡ b
unfolding weight
if_member a b m true e h = rw e at h
if_member a b m false e h = rw e at h

if_none : (a b : ℕ) (m : Bool) → m ≡ false → a ≡ b + (if m then 0 else 1) → a ≡ b + 1
if_none a b m e h = rw e at h

weight_true : (b : Bool) → b ≡ true → weight b ≡ 1
unfolding weight
weight_true b e = rw e refl

weight_false : (b : Bool) → b ≡ false → weight b ≡ 0
unfolding weight
weight_false b e = rw e refl

-- the first slot went
pub index_shift : (old new : List ℕ) (front after : ℕ) (slots : List Slot) → length new ≡ length old → length slots < bits_of old →
    ((p : ℕ) → p < bits_of old → is_member new after p ≡ (if p + 1 == bits_of old then false else is_member old front (p + 1))) →
    size_of new + (if is_member old front 0 then 1 else 0) ≡ size_of old → IsIndex old front slots → IsIndex new after (drop 1 slots)
index_shift old new front after [] long few members size is =
    let same = if_member (size_of new) (size_of old) _ false (is.0 0 (omega arith)) size in
    let none = weight_false false refl in
    (set_after_drop is_missing old new front after [] long few refl members is.0, let count = is.1 in omega arith)
index_shift old new front after (x ∷ slots) long few members size is =
    let less = if_member (size_of new) (size_of old) _ (is_missing (Some x)) (is.0 0 (omega arith)) size in
    let counted = counted_first x slots in
    let count = is.1 in
    (set_after_drop is_missing old new front after (x ∷ slots) long few refl members is.0, omega arith)

counted_both : (xs ys : List Slot) → count_missing (xs ++ ys) ≡ count_missing xs + count_missing ys
counted_both xs ys = ap length (filter-append (λ (slot : Slot). is_missing (Some slot)) xs ys) ∙ length-append (filter (λ (slot : Slot). is_missing (Some slot)) xs) (filter (λ (slot : Slot). is_missing (Some slot)) ys)

counted_first_ones : (words : List ℕ) (front : ℕ) (slots : List Slot) (count : ℕ) → count ≤ length slots → length slots ≤ bits_of words → IsSetOf is_missing words front slots →
    members_below words front count ≡ count_missing (take count slots)
counted_first_ones words front slots count fits few is =
    let long = length-take-le count slots fits in
    let whole = take-append-drop count slots in
    ap (λ n. members_below words front n) (sym long)
    ∙ passing_count (is_member words front) (λ slot. is_missing (Some slot)) 0 (take count slots) (λ i x e.
    let within = slice_get_within (take count slots) i x e in
    let same : 0 + i ≡ i = omega arith in
    ap (is_member words front) same ∙ is i (omega arith) ∙ ap (λ xs. is_missing (slice_get xs i)) (sym whole) ∙ ap is_missing (slice_get-append_left (take count slots) (drop count slots) i within ∙ e))

-- the first slots went
pub index_shift_by : (old new : List ℕ) (front after count : ℕ) (slots : List Slot) → length new ≡ length old → length slots ≤ bits_of old → count ≤ length slots →
    ((p : ℕ) → p < bits_of old → is_member new after p ≡ (if nat_lt (p + count) (bits_of old) then is_member old front (p + count) else false)) →
    size_of new + members_below old front count ≡ size_of old → IsIndex old front slots → IsIndex new after (drop count slots)
index_shift_by old new front after count slots long few fits members size is =
    let gone = counted_first_ones old front slots count fits few is.0 in
    let apart = ap count_missing (sym (take-append-drop count slots)) ∙ counted_both (take count slots) (drop count slots) in
    let counted = is.1 in
    (set_after_drops is_missing old new front after count slots long few refl members is.0, omega arith)

counted_many : (count : ℕ) (x : Slot) → is_missing (Some x) ≡ true → count_missing (replicate count x) ≡ count
unfolding weight
counted_many zero x missing = refl
counted_many (suc count) x missing =
    let rest = counted_many count x missing in
    let first = counted_first x (replicate count x) in
    let one = ap weight missing in
    omega arith

-- missing slots came
pub index_adds : (old new : List ℕ) (front after count : ℕ) (slots : List Slot) (x : Slot) → length new ≡ length old → is_missing (Some x) ≡ true →
    ((p : ℕ) → p < bits_of old → is_member new after p ≡ (if is_between (length slots) (length slots + count) p then true else is_member old front p)) →
    size_of new ≡ size_of old + count → IsIndex old front slots → IsIndex new after (slots ++ replicate count x)
index_adds old new front after count slots x long missing members size is =
    let counted = counted_both slots (replicate count x) in
    let many = counted_many count x missing in
    let before = is.1 in
    (set_after_adds is_missing old new front after count slots x long missing refl members is.0, omega arith)

-- no position above all slots is in it
pub index_none : (words : List ℕ) (front : ℕ) (slots : List Slot) (p : ℕ) → IsIndex words front slots → length slots ≤ p → p < bits_of words → is_member words front p ≡ false
index_none words front slots p is above below = is.0 p below ∙ ap is_missing (slice_get_past slots p above)

-- a missing slot came
pub index_add : (old new : List ℕ) (front after : ℕ) (slots : List Slot) (x : Slot) → length new ≡ length old → length slots < bits_of old → is_missing (Some x) ≡ true →
    ((p : ℕ) → p < bits_of old → is_member new after p ≡ (if p == length slots then true else is_member old front p)) →
    size_of new ≡ size_of old + (if is_member old front (length slots) then 0 else 1) → IsIndex old front slots → IsIndex new after (slots ++ x ∷ [])
index_add old new front after slots x long few missing members size is =
    let off = is.0 (length slots) few ∙ ap is_missing (slice_get_past slots (length slots) (omega arith)) in
    let more = if_none (size_of new) (size_of old) _ off size in
    let counted = counted_push slots x in
    let one = weight_true (is_missing (Some x)) missing in
    let count = is.1 in
    (set_after_add is_missing old new front after slots x long missing refl members is.0, omega arith)

-- a held slot came
pub index_push : (words : List ℕ) (front : ℕ) (slots : List Slot) (x : Slot) → is_missing (Some x) ≡ false → IsIndex words front slots → IsIndex words front (slots ++ x ∷ [])
index_push words front slots x held is =
    let counted = counted_push slots x in
    let none = weight_false (is_missing (Some x)) held in
    let count = is.1 in
    (set_after_push is_missing words front slots x held refl is.0, omega arith)

hold_of : (old new : List ℕ) (front after : ℕ) (slots : List Slot) (i : ℕ) (x y : Slot) → length new ≡ length old → slice_get slots i ≡ Some y → is_missing (Some y) ≡ true → is_missing (Some x) ≡ false →
    i < bits_of old →
    ((p : ℕ) → p < bits_of old → is_member new after p ≡ (if p == i then false else is_member old front p)) →
    size_of new + (if is_member old front i then 1 else 0) ≡ size_of old → IsIndex old front slots → IsIndex new after (slice_set slots i x)
hold_of old new front after slots i x y long at missing held below members size is =
    let on = is.0 i below ∙ ap is_missing at ∙ missing in
    let less = if_member (size_of new) (size_of old) _ true on size in
    let counted = counted_set slots i x y at in
    let one = weight_true (is_missing (Some y)) missing in
    let always = weight_true true refl in
    let none = weight_false (is_missing (Some x)) held in
    let count = is.1 in
    (set_after_change is_missing old new front after slots i x false (slice_get_within slots i y at) long members held is.0, omega arith)

hold_at : (old new : List ℕ) (front after : ℕ) (slots : List Slot) (i : ℕ) (x : Slot) (o : Option Slot) → slice_get slots i ≡ o → length new ≡ length old → is_missing o ≡ true → is_missing (Some x) ≡ false →
    i < bits_of old →
    ((p : ℕ) → p < bits_of old → is_member new after p ≡ (if p == i then false else is_member old front p)) →
    size_of new + (if is_member old front i then 1 else 0) ≡ size_of old → IsIndex old front slots → IsIndex new after (slice_set slots i x)
hold_at old new front after slots i x None at long missing held below members size is = absurd cc
hold_at old new front after slots i x (Some y) at long missing held below members size is = hold_of old new front after slots i x y long at missing held below members size is

-- a missing slot came to be held
pub index_hold : (old new : List ℕ) (front after : ℕ) (slots : List Slot) (i : ℕ) (x : Slot) → length new ≡ length old → is_missing (slice_get slots i) ≡ true → is_missing (Some x) ≡ false →
    i < bits_of old →
    ((p : ℕ) → p < bits_of old → is_member new after p ≡ (if p == i then false else is_member old front p)) →
    size_of new + (if is_member old front i then 1 else 0) ≡ size_of old → IsIndex old front slots → IsIndex new after (slice_set slots i x)
index_hold old new front after slots i x long missing held below members size is = hold_at old new front after slots i x (slice_get slots i) refl long missing held below members size is

-- a slot changed that stays missing, or stays held
pub index_same : (words : List ℕ) (front : ℕ) (slots : List Slot) (i : ℕ) (x y : Slot) → slice_get slots i ≡ Some y → is_missing (Some x) ≡ is_missing (Some y) →
    IsIndex words front slots → IsIndex words front (slice_set slots i x)
index_same words front slots i x y at same is =
    let counted = counted_set slots i x y at in
    let equal = ap weight same in
    let count = is.1 in
    (set_after_same is_missing words front slots i x (slice_get_within slots i y at) (same ∙ ap is_missing (sym at)) is.0, omega arith)

asked_of : (words : List ℕ) (front : ℕ) (slots : List Slot) (i now : ℕ) (o : Option Slot) → slice_get slots i ≡ o → IsSomeAnd o CanBeAsked → IsIndex words front slots → IsIndex words front (asked_at slots i now o)
asked_of words front slots i now None at can is = absurd can
asked_of words front slots i now (Some (Held content)) at can is = absurd can
asked_of words front slots i now (Some (Missing noticed asks last)) at can is =
    index_same words front slots i (Missing noticed (asks + 1) now) (Missing noticed asks last) at refl is

-- a slot was asked for
pub index_asked : (words : List ℕ) (front : ℕ) (slots : List Slot) (i now : ℕ) → IsSomeAnd (slice_get slots i) CanBeAsked → IsIndex words front slots → IsIndex words front (asked_at slots i now (slice_get slots i))
index_asked words front slots i now can is = asked_of words front slots i now (slice_get slots i) refl can is

-- A test lists its places in one way.
use Rattle.std.proofs.Common.{◌≡◌, ℕ, zero, suc, ◌+◌, ◌<◌, ◌==◌, ◌||◌, Bool, true, false, List, [], ◌∷◌, length, take, refl, sym, ap, ◌∙◌, arith, inl, inr, eq-eqb, ne_eqb, true≢false}
use Rattle.std.specs.List.{All}
use Rattle.std.specs.List.Sorted.{IsStrictlyIncreasing, IsStrictlySortedBy}
use Rattle.std.specs.Ordering.{nat_cmp}
use Rattle.std.proofs.lemmas.Bool.{cases_eq, cases_lt}
use Rattle.std.proofs.lemmas.Grind.{common_steps}
use Rattle.std.proofs.lemmas.List.{get_or-take}
use Rattle.std.proofs.lemmas.Map.Keys.{below_from_sorted, sorted_from_strictly_increasing, sorted_tail}
use Rattle.std.proofs.lemmas.List.Folds.{list_any_at, list_any_none}
use Rattle.places.specs.Among.{is_among}
use Rattle.stores.specs.PlaceLists.{Lists}

-- the beginning of a rising list rises
pub rising_take : (n : ℕ) (xs : List ℕ) → IsStrictlyIncreasing xs → IsStrictlyIncreasing (take n xs)
rising_take n xs rising k within =
    let inside : k + 1 < length xs = grind (arith, common_steps) in
    let some : k + 1 < n = grind (arith, common_steps) in
    let here = get_or-take n xs k 0 (omega arith) in
    let next = get_or-take n xs (k + 1) 0 some in
    let less = rising k inside in
    omega arith

pub first_among : (x : ℕ) (xs : List ℕ) → is_among (x ∷ xs) x ≡ true
first_among x xs = list_any_at (λ p. p == x) (x ∷ xs) 0 0 (omega arith) (eq-eqb _ _ refl)

-- a rising list has no number below its first
under_first : (n x : ℕ) (xs : List ℕ) → n < x → IsStrictlySortedBy nat_cmp (x ∷ xs) → is_among (x ∷ xs) n ≡ false
under_first n x xs less sorted = list_any_none (λ p. p == n) (x ∷ xs) apart
  where
    apart : All (λ p. (p == n) ≡ false) (x ∷ xs)
    apart zero d within = ne_eqb _ _ (λ is. absurd (omega arith))
    apart (suc k) d within =
        let over = below_from_sorted (x ∷ xs) 0 (suc k) d sorted (omega arith) within in
        ne_eqb _ _ (λ is. absurd (omega arith))

-- nor its first again
not_again : (x : ℕ) (xs : List ℕ) → IsStrictlySortedBy nat_cmp (x ∷ xs) → is_among xs x ≡ false
not_again x xs sorted = list_any_none (λ p. p == x) xs apart
  where
    apart : All (λ p. (p == x) ≡ false) xs
    apart k d within =
        let over = below_from_sorted (x ∷ xs) 0 (suc k) d sorted (omega arith) (omega arith) in
        ne_eqb _ _ (λ is. absurd (omega arith))

-- so rising lists with one first number and the same members have the same members after it
tails : (x y : ℕ) (xs ys : List ℕ) → x ≡ y → IsStrictlySortedBy nat_cmp (x ∷ xs) → IsStrictlySortedBy nat_cmp (y ∷ ys) → ((q : ℕ) → is_among (x ∷ xs) q ≡ is_among (y ∷ ys) q) →
    (q : ℕ) → is_among xs q ≡ is_among ys q
tails x y xs ys first a b same q =
    elim (cases_eq q x) [
      | inl here ↦
          ap (is_among xs) here ∙ not_again x xs a ∙ sym (ap (is_among ys) (here ∙ first) ∙ not_again y ys b)
      | inr other ↦
          ap (λ t. t || is_among xs q) (sym (ne_eqb x q (λ e. other (sym e)))) ∙ same q ∙ ap (λ t. t || is_among ys q) (ne_eqb y q (λ e. other (sym e ∙ sym first)))
    ]

same_list : (xs ys : List ℕ) → IsStrictlySortedBy nat_cmp xs → IsStrictlySortedBy nat_cmp ys → ((q : ℕ) → is_among xs q ≡ is_among ys q) → xs ≡ ys
same_list [] [] a b same = refl
same_list [] (y ∷ ys) a b same = absurd (true≢false (sym (first_among y ys) ∙ sym (same y)))
same_list (x ∷ xs) [] a b same = absurd (true≢false (sym (first_among x xs) ∙ same x))
same_list (x ∷ xs) (y ∷ ys) a b same =
    elim (cases_lt x y) [
      | inl under ↦ absurd (true≢false (sym (first_among x xs) ∙ same x ∙ under_first x y ys under b))
      | inr over ↦ elim (cases_lt y x) [
        | inl under ↦ absurd (true≢false (sym (first_among y ys) ∙ sym (same y) ∙ under_first y x xs under a))
        | inr other ↦
            let first : x ≡ y = omega arith in
            let rest = same_list xs ys (sorted_tail nat_cmp x xs a) (sorted_tail nat_cmp y ys b) (tails x y xs ys first a b same) in
            λ i. first i ∷ rest i
      ]
    ]

pub one_list : (xs ys : List ℕ) (test : ℕ → Bool) → Lists xs test → Lists ys test → xs ≡ ys
one_list xs ys test a b =
    same_list xs ys (sorted_from_strictly_increasing xs a.rises) (sorted_from_strictly_increasing ys b.rises) (λ q. a.each q ∙ sym (b.each q))

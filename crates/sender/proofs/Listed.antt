-- The places of a run that pass a test are listed by a filter, and counted so.
use Rattle.std.proofs.Common.{◌≡◌, ℕ, zero, suc, ◌+◌, ◌<◌, ◌≤◌, ◌==◌, ◌&&◌, Bool, true, false, cond, nat_lt, nat_le, List, ◌∷◌, length, ap, ◌∙◌, refl, arith, ◌≢◌, inl, inr, eq-eqb}
use Rattle.std.specs.List.{filter, range_with_len, list_any}
use Rattle.std.specs.List.Sorted.{IsStrictlyIncreasing}
use Rattle.std.proofs.lemmas.Bool.{eqb-true, cases_Bool, cases_eq}
use Rattle.std.proofs.lemmas.Bool.Decides.{nat_tests}
use Rattle.std.proofs.lemmas.List.FromFn.{length-range_with_len, get_or-range_with_len}
use Rattle.std.proofs.lemmas.List.Kept.{IsStrictlyIncreasing-filter}
use Rattle.std.proofs.lemmas.Map.Views.{any-filter_same}
use Rattle.stores.specs.PlaceLists.{Lists}

run_rises : (k n : ℕ) → IsStrictlyIncreasing (range_with_len k n)
run_rises k n i within =
    let count = length-range_with_len k n in
    let here = get_or-range_with_len k n i 0 (omega arith) in
    let next = get_or-range_with_len k n (i + 1) 0 (omega arith) in
    omega arith

in_run : (k n q : ℕ) → list_any (λ p. p == q) (range_with_len k n) ≡ (nat_le k q && nat_lt q (k + n))
in_run k zero q = grind (arith, nat_tests)
in_run k (suc n) q = let rest = in_run (k + 1) n q in grind (arith, nat_tests, rest)

within : (b c d : Bool) → (c ≡ true → d ≡ true) → (c && d) ≡ c
within b true d h = h refl
within b false d h = refl

-- where each place that passes is in the run, they are all listed
pub lists_passing : (test : ℕ → Bool) (k n : ℕ) → ((q : ℕ) → test q ≡ true → (k ≤ q) × (q < k + n)) → Lists (filter test (range_with_len k n)) test
lists_passing test k n inside =
    record {
      rises = IsStrictlyIncreasing-filter test _ (run_rises k n);
      each = λ q.
          any-filter_same (λ p. p == q) test (test q) (λ p e. ap test (eqb-true p q e)) (range_with_len k n)
          ∙ within true (test q) _ (λ e. in_run k n q ∙ (let at = inside q e in grind (arith, nat_tests)));
    }

-- 1 where a test passes
abbrev pub bit : Bool → ℕ
bit true = 1
bit false = 0

one_more : (b : Bool) (k : ℕ) (xs : List ℕ) → length (cond b (k ∷ xs) xs) ≡ bit b + length xs
one_more true k xs = omega arith
one_more false k xs = omega arith

-- no more pass than there are
pub few_pass : (test : ℕ → Bool) (k n : ℕ) → length (filter test (range_with_len k n)) ≤ n
few_pass test k zero = omega arith
few_pass test k (suc n) =
    let rest = few_pass test (k + 1) n in
    let here = one_more (test k) k (filter test (range_with_len (k + 1) n)) in
    let small = bit_small (test k) in
    omega arith
  where
    bit_small : (b : Bool) → bit b ≤ 1
    bit_small true = omega arith
    bit_small false = omega arith

-- where each place passes the first test or the second, and none both, the counts add up
pub counts_add : (a b c : ℕ → Bool) (k n : ℕ) → ((q : ℕ) → bit (c q) ≡ bit (a q) + bit (b q)) →
    length (filter c (range_with_len k n)) ≡ length (filter a (range_with_len k n)) + length (filter b (range_with_len k n))
counts_add a b c k zero each = refl
counts_add a b c k (suc n) each =
    let rest = counts_add a b c (k + 1) n each in
    let here = each k in
    let x = one_more (a k) k (filter a (range_with_len (k + 1) n)) in
    let y = one_more (b k) k (filter b (range_with_len (k + 1) n)) in
    let z = one_more (c k) k (filter c (range_with_len (k + 1) n)) in
    omega arith

-- none passes
pub none_pass : (test : ℕ → Bool) (k n : ℕ) → ((q : ℕ) → test q ≡ false) → length (filter test (range_with_len k n)) ≡ 0
none_pass test k zero none = refl
none_pass test k (suc n) none =
    let rest = none_pass test (k + 1) n none in
    let here = one_more (test k) k (filter test (range_with_len (k + 1) n)) in
    let zero = ap bit (none k) in
    omega arith

-- exactly one place passes, and it is in the run
pub one_passes : (test : ℕ → Bool) (p k n : ℕ) → ((q : ℕ) → test q ≡ (q == p)) → k ≤ p → p < k + n → length (filter test (range_with_len k n)) ≡ 1
one_passes test p k zero each low high = absurd (omega arith)
one_passes test p k (suc n) each low high =
    let here = one_more (test k) k (filter test (range_with_len (k + 1) n)) in
    elim (cases_eq k p) [
      | inl same ↦
          let passes : bit (test k) ≡ 1 = ap bit (each k ∙ eq-eqb k p same) in
          let rest = after test p (k + 1) n each (omega arith) in
          omega arith
      | inr other ↦
          let fails : bit (test k) ≡ 0 = ap bit (each k ∙ eqb-no k p other) in
          let rest = one_passes test p (k + 1) n each (omega arith) (omega arith) in
          omega arith
    ]
  where
    eqb-no : (a b : ℕ) → a ≢ b → (a == b) ≡ false
    eqb-no a b other = elim (cases_Bool (a == b)) [ inl same ↦ absurd (other (eqb-true _ _ same)) | inr e ↦ e ]

    after : (test : ℕ → Bool) (p k n : ℕ) → ((q : ℕ) → test q ≡ (q == p)) → p < k → length (filter test (range_with_len k n)) ≡ 0
    after test p k zero each above = refl
    after test p k (suc n) each above =
        let rest = after test p (k + 1) n each (omega arith) in
        let here = one_more (test k) k (filter test (range_with_len (k + 1) n)) in
        let fails : bit (test k) ≡ 0 = ap bit (each k ∙ eqb-no k p (λ same. absurd (omega arith))) in
        omega arith

-- The places of a run that pass a test are listed by a filter.
use Rattle.std.proofs.Common.{◌≡◌, ℕ, zero, suc, ◌+◌, ◌<◌, ◌≤◌, ◌==◌, ◌&&◌, Bool, true, false, nat_lt, nat_le, ap, ◌∙◌, refl, arith}
use Rattle.std.specs.List.{filter, range_with_len, list_any}
use Rattle.std.specs.List.Sorted.{IsStrictlyIncreasing}
use Rattle.std.proofs.lemmas.Bool.{eqb-true}
use Rattle.std.proofs.lemmas.Bool.Decides.{nat_tests}
use Rattle.std.proofs.lemmas.List.FromFn.{length-range_with_len, get_or-range_with_len}
use Rattle.std.proofs.lemmas.List.Kept.{IsStrictlyIncreasing-filter}
use Rattle.std.proofs.lemmas.Map.Views.{any-filter_same}
use Rattle.stores.specs.PlaceLists.{Lists}

run_rises : (k n : ℕ) → IsStrictlyIncreasing (range_with_len k n)
run_rises k n i within =
    let count = length-range_with_len k n in
    let here = get_or-range_with_len k n i 0 (omega arith) in
    let next = get_or-range_with_len k n (i + 1) 0 (omega arith) in
    omega arith

in_run : (k n q : ℕ) → list_any (λ p. p == q) (range_with_len k n) ≡ (nat_le k q && nat_lt q (k + n))
in_run k zero q = grind (arith, nat_tests)
in_run k (suc n) q = let rest = in_run (k + 1) n q in grind (arith, nat_tests, rest)

within : (b c d : Bool) → (c ≡ true → d ≡ true) → (c && d) ≡ c
within b true d h = h refl
within b false d h = refl

-- where each place that passes is in the run, they are all listed
pub lists_passing : (test : ℕ → Bool) (k n : ℕ) → ((q : ℕ) → test q ≡ true → (k ≤ q) × (q < k + n)) → Lists (filter test (range_with_len k n)) test
lists_passing test k n inside =
    record {
      rises = IsStrictlyIncreasing-filter test _ (run_rises k n);
      each = λ q.
          any-filter_same (λ p. p == q) test (test q) (λ p e. ap test (eqb-true p q e)) (range_with_len k n)
          ∙ within true (test q) _ (λ e. in_run k n q ∙ (let at = inside q e in grind (arith, nat_tests)));
    }

-- How many bits of words are set, when one of them changes.
use Rattle.std.proofs.Common.{◌≡◌, ◌≢◌, ℕ, zero, suc, ◌+◌, ◌*◌, ◌/◌, ◌%◌, ◌<◌, ◌≤◌, ◌==◌, Bool, true, false, List, length, get_or, replicate, cond, ap, sym, ◌∙◌, refl, arith}
use Rattle.std.specs.Prelude.{if◌then◌else◌}
use Rattle.std.proofs.lemmas.Bool.{cond_both, eqb-true, eqb-false}
use Rattle.std.proofs.lemmas.Bool.Decides.{nat_tests}
use Rattle.std.proofs.lemmas.Nat.Bits.{bit_at-zero}
use Rattle.std.specs.Int.{bit_at}
use Rattle.stores.specs.Bits.{is_set, bits_of, turned, is_member, size_of}
use Rattle.stores.proofs.Passing.{passing}
use Rattle.stores.proofs.Tallies.{weight, weightless, one_more, few_pass}

none_pass : (test : ℕ → Bool) (a n : ℕ) → ((q : ℕ) → test q ≡ false) → length (passing test a n) ≡ 0
none_pass test a zero none = refl
none_pass test a (suc n) none = rw (none a) (none_pass test (a + 1) n none)

zero_word : (n i : ℕ) → ◌≡◌ {A = ℕ} (get_or (replicate n 0) i 0) 0
zero_word zero i = refl
zero_word (suc n) zero = refl
zero_word (suc n) (suc i) = zero_word n i

none_set : (n q : ℕ) → is_set (replicate n 0) q ≡ false
none_set n q = ap (λ w. bit_at w (q % 64) == 1) (zero_word n (q / 64)) ∙ ap (λ b. b == 1) (bit_at-zero (q % 64))

-- no bit of empty words is set
pub size_of_zeros : (n : ℕ) → size_of (replicate n 0) ≡ 0
unfolding size_of
size_of_zeros n = none_pass (is_set (replicate n 0)) 0 (bits_of (replicate n 0)) (none_set n)

same_from : (f g : ℕ → Bool) (a n p : ℕ) → p < a → ((q : ℕ) → q ≢ p → g q ≡ f q) → length (passing g a n) ≡ length (passing f a n)
same_from f g a zero p below same = refl
same_from f g a (suc n) p below same =
    let rest = same_from f g (a + 1) n p (omega arith) same in
    let here = ap weight (same a (λ e. omega arith)) in
    let l = one_more g a n in
    let r = one_more f a n in
    omega arith

change_from : (f g : ℕ → Bool) (a n p : ℕ) → a ≤ p → p < a + n → ((q : ℕ) → q ≢ p → g q ≡ f q) → f p ≡ false → g p ≡ true → length (passing g a n) ≡ length (passing f a n) + 1
unfolding weight
change_from f g a zero p above below same off on = absurd (omega arith)
change_from f g a (suc n) p above below same off on =
    let l = one_more g a n in
    let r = one_more f a n in
    cond_both (a == p) true false (λ _. length (passing g a (suc n)) ≡ length (passing f a (suc n)) + 1)
    (λ e. let at : a ≡ p = eqb-true a p e in
    let rest = same_from f g (a + 1) n p (omega arith) same in
    let was : weight (f a) ≡ 0 = ap (λ q. weight (f q)) at ∙ ap weight off in
    let is : weight (g a) ≡ 1 = ap (λ q. weight (g q)) at ∙ ap weight on in
    omega arith)
    (λ e. let apart : a ≢ p = eqb-false a p e in
    let rest = change_from f g (a + 1) n p (omega arith) (omega arith) same off on in
    let here = ap weight (same a apart) in
    omega arith)

other : (b c : Bool) (x y : Bool) → b ≡ false → x ≡ cond b c y → x ≡ y
other b c x y off e = grind arith

same_bit : (b : ℕ) (c x y : Bool) → x ≡ cond (b == b) c y → x ≡ c
same_bit b c x y e = grind (arith, nat_tests)

-- one more bit is set
pub size_of_set : (old new : List ℕ) (bit : ℕ) → length new ≡ length old → bit < bits_of old → ((b : ℕ) → is_set new b ≡ (if b == bit then true else is_set old b)) → is_set old bit ≡ false →
    size_of new ≡ size_of old + 1
unfolding size_of
size_of_set old new bit long within each off =
    ap (λ n. length (passing (is_set new) 0 (64 * n))) long
    ∙ change_from (is_set old) (is_set new) 0 (bits_of old) bit (omega arith) (omega arith)
    (λ q apart. other (q == bit) true (is_set new q) (is_set old q) (grind (arith, nat_tests)) (each q)) off (same_bit bit true _ _ (each bit))

-- one bit fewer is set
pub size_of_clear : (old new : List ℕ) (bit : ℕ) → length new ≡ length old → bit < bits_of old → ((b : ℕ) → is_set new b ≡ (if b == bit then false else is_set old b)) → is_set old bit ≡ true →
    size_of new + 1 ≡ size_of old
unfolding size_of
size_of_clear old new bit long within each on =
    sym (change_from (is_set new) (is_set old) 0 (bits_of old) bit (omega arith) (omega arith)
    (λ q apart. sym (other (q == bit) false (is_set new q) (is_set old q) (grind (arith, nat_tests)) (each q))) (same_bit bit false _ _ (each bit)) on
    ∙ ap (λ n. length (passing (is_set new) 0 (64 * n)) + 1) (sym long))

-- no more bits are set than there are
pub size_of_within : (words : List ℕ) → size_of words ≤ bits_of words
unfolding size_of
size_of_within words = few_pass (is_set words) 0 (bits_of words)

none_counted : (test : ℕ → Bool) (a n q : ℕ) → length (passing test a n) ≡ 0 → a ≤ q → q < a + n → test q ≡ false
unfolding weight
none_counted test a zero q none above below = absurd (omega arith)
none_counted test a (suc n) q none above below =
    let one = one_more test a n in
    cond_both (a == q) true false (λ _. test q ≡ false)
    (λ e. let at : a ≡ q = eqb-true a q e in
    ap test (sym at) ∙ weightless (test a) (omega arith))
    (λ e. let apart : a ≢ q = eqb-false a q e in
    none_counted test (a + 1) n q (omega arith) (omega arith) (omega arith))

turned_within : (bound front p : ℕ) → front < bound → p < bound → turned bound front p < bound
turned_within bound front p f b = grind (arith, nat_tests)

-- an empty set has no position
pub no_member : (words : List ℕ) (front p : ℕ) → size_of words ≡ 0 → front < bits_of words → p < bits_of words → is_member words front p ≡ false
unfolding size_of
no_member words front p none within below =
    let inside = turned_within (bits_of words) front p within below in
    none_counted (is_set words) 0 (bits_of words) (turned (bits_of words) front p) none (omega arith) (omega arith)

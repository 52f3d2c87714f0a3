-- The numbers that a mask names, its lowest bit first.
use Rattle.std.proofs.Common.{◌≡◌, ℕ, zero, suc, ◌+◌, ◌-◌, ◌*◌, ◌%◌, ◌^◌, ◌<◌, ◌≤◌, Bool, true, false, eqb, List, [], ◌∷◌, ◌++◌, map, filter, refl, ap, sym, ◌∙◌, arith, inl, inr}
use Rattle.std.specs.Int.{bit_at, w16, bit_not, trailing_zeros}
use Rattle.std.specs.Int.Bits.{bit_and}
use Rattle.std.proofs.lemmas.Bool.{cases_eq}
use Rattle.std.proofs.lemmas.Nat.Bits.{bit_at-trailing_zeros, bit_at_clear_same, bit_at_clear_other, bit_at-zero}
use Rattle.fbwire.specs.Nack.{has_bit, up_from, mask_bits, masked_numbers}

-- a filter that keeps nothing
filter_none : (f : ℕ → Bool) (first count : ℕ) → ((i : ℕ) → f i ≡ false) → filter f (up_from first count) ≡ []
filter_none f first zero none = refl
filter_none f first (suc count) none = rw none (filter_none f (suc first) count none)

-- two filters that agree
filter_same : (f g : ℕ → Bool) (first count : ℕ) → ((i : ℕ) → first ≤ i → i < first + count → f i ≡ g i) → filter f (up_from first count) ≡ filter g (up_from first count)
filter_same f g first zero same = refl
filter_same f g first (suc count) same =
    let rest = filter_same f g (suc first) count (λ i low high. same i (omega arith) (omega arith)) in
    rw (same first (omega arith) (omega arith), rest) refl

-- the lowest number that passes, and the others
filter_lowest : (f g : ℕ → Bool) (b first count : ℕ) → first ≤ b → b < first + count → f b ≡ true → g b ≡ false
    → ((i : ℕ) → first ≤ i → i < b → f i ≡ false) → ((i : ℕ) → first ≤ i → i < first + count → (i ≡ b → ⊥) → g i ≡ f i)
    → filter f (up_from first count) ≡ b ∷ filter g (up_from first count)
filter_lowest f g b first zero low high is not_is below same = absurd (omega arith)
filter_lowest f g b first (suc count) low high is not_is below same = elim (cases_eq first b) [
  | inl e ↦
      let f_is : f first ≡ true = ap f e ∙ is in
      let g_is : g first ≡ false = ap g e ∙ not_is in
      let rest = filter_same f g (suc first) count (λ i l h. sym (same i (omega arith) (omega arith) (λ q. omega arith))) in
      rw (f_is, g_is, rest) (λ j. e j ∷ filter g (up_from (suc first) count))
  | inr ne ↦
      let under : first < b = omega arith in
      let f_is : f first ≡ false = below first (omega arith) under in
      let g_is : g first ≡ false = same first (omega arith) (omega arith) ne ∙ f_is in
      let rest = filter_lowest f g b (suc first) count (omega arith) (omega arith) is not_is (λ i l h. below i (omega arith) h) (λ i l h. same i (omega arith) (omega arith)) in
      rw (f_is, g_is) rest
]

-- no bit is set
pub masked_numbers-none : (pid : ℕ) → masked_numbers pid 0 ≡ []
unfolding mask_bits
masked_numbers-none pid =
    let none : filter (has_bit 0) (up_from 1 16) ≡ [] = filter_none (has_bit 0) 1 16 (λ i. rw bit_at-zero refl) in
    ap (map (λ i. (pid + i) % 65536)) none

-- the mask without its lowest set bit
abbrev pub without_lowest : ℕ → ℕ
without_lowest mask = bit_and mask (bit_not w16 (1 * 2 ^ trailing_zeros w16 mask % 2 ^ 16))

-- the lowest set bit comes first
pub masked_numbers-more : (pid mask : ℕ) → 0 < mask → mask < 2 ^ 16
    → masked_numbers pid mask ≡ (pid + (trailing_zeros w16 mask + 1)) % 65536 ∷ masked_numbers pid (without_lowest mask)
unfolding mask_bits
masked_numbers-more pid mask some fits =
    let t = trailing_zeros w16 mask in
    let lowest = bit_at-trailing_zeros w16 mask some fits in
    let at : t + 1 - 1 ≡ t = omega arith in
    let one : bit_at mask (t + 1 - 1) ≡ 1 = ap (bit_at mask) at ∙ lowest.1 in
    let cleared : bit_at (without_lowest mask) (t + 1 - 1) ≡ 0 = ap (bit_at (without_lowest mask)) at ∙ bit_at_clear_same w16 mask t lowest.0 in
    let split : filter (has_bit mask) (up_from 1 16) ≡ (t + 1) ∷ filter (has_bit (without_lowest mask)) (up_from 1 16) =
    filter_lowest (has_bit mask) (has_bit (without_lowest mask)) (t + 1) 1 16 (omega arith) (omega (arith, lowest.0))
    (ap (λ b. eqb b 1) one)
    (ap (λ b. eqb b 1) cleared)
    (λ i low high. let none : bit_at mask (i - 1) ≡ 0 = lowest.2 (i - 1) (omega arith) in ap (λ b. eqb b 1) none)
    (λ i low high ne.
    let kept : bit_at (without_lowest mask) (i - 1) ≡ bit_at mask (i - 1) =
    bit_at_clear_other w16 mask t lowest.0 (i - 1) (omega arith) (λ e. ne (omega arith)) in
    ap (λ b. eqb b 1) kept) in
    ap (map (λ i. (pid + i) % 65536)) split

pub ruleset bit_by_bit = (masked_numbers-none, masked_numbers-more)

-- nothing before the pairs
pub nothing_before : (rest : List ℕ) → masked_numbers 0 0 ++ rest ≡ rest
nothing_before rest = ap (λ t. t ++ rest) (masked_numbers-none 0)

-- The pair that starts at the first place of a rising list.
use Rattle.std.proofs.Common.{◌≡◌, ◌↔◌, ℕ, zero, suc, ◌+◌, ◌-◌, ◌*◌, ◌%◌, ◌^◌, ◌<◌, ◌≤◌, true, eqb, List, [], ◌∷◌, ◌++◌, length, drop, get_or, ap, subst, sym, ◌∙◌, arith, inl, inr}
use Rattle.std.specs.List.{All, Contains}
use Rattle.std.specs.List.Sorted.{IsStrictlyIncreasing}
use Rattle.std.specs.Int.{bit_at, w16}
use Rattle.std.specs.Int.Bits.{bit_or}
use Rattle.std.proofs.lemmas.Bool.{cases_eq, eqb-true}
use Rattle.std.proofs.lemmas.List.{get_or-drop, get_or_default, length-drop}
use Rattle.std.proofs.lemmas.List.Elements.{Contains-append_left, Contains-push, Contains-push_cases}
use Rattle.std.proofs.lemmas.List.Kept.{AllPairs-from_increasing}
use Rattle.std.proofs.lemmas.Nat.Bits.{bit_at_set_same, bit_at_set_other, bit_at-zero}
use Rattle.fbwire.specs.Nack.{has_bit}

-- bit i of the mask is set exactly where the place i above the first is among these
abbrev pub IsMaskOf : (mask first : ℕ) → List ℕ → Type 0
IsMaskOf mask first taken = (i : ℕ) → 0 < i → i ≤ 16 → (has_bit mask i ≡ true) ↔ Contains taken (first + i)

-- the first place alone
pub mask_none : (first : ℕ) → IsMaskOf 0 first (first ∷ [])
mask_none first i some small = (
  λ is. absurd (let e : bit_at 0 (i - 1) ≡ 1 = eqb-true _ _ is in let z = bit_at-zero (i - 1) in omega arith),
  λ (k, within, is). absurd (one_only k within is),
)
  where
    one_only : (k : ℕ) → k < 1 → get_or (first ∷ []) k (first + i) ≡ first + i → ⊥
    one_only zero within is = omega arith
    one_only (suc k) within is = omega arith

-- one place more
pub mask_more : (mask first bit : ℕ) (taken more : List ℕ) → IsMaskOf mask first taken → bit < 16 → more ≡ taken ++ (first + (bit + 1)) ∷ []
    → IsMaskOf (bit_or mask (1 * 2 ^ bit % 2 ^ 16)) first more
mask_more mask first bit taken more before fits more_is i some at_most =
    let wider = bit_or mask (1 * 2 ^ bit % 2 ^ 16) in
    let place = first + (bit + 1) in
    elim (cases_eq (i - 1) bit) [
      | inl here ↦
          let is : bit_at wider (i - 1) ≡ 1 = ap (bit_at wider) here ∙ bit_at_set_same w16 mask bit fits in
          let last : place ≡ first + i = omega arith in
          let among : Contains (taken ++ place ∷ []) (first + i) = subst (Contains (taken ++ place ∷ [])) last (Contains-push taken place) in
          (λ _. subst (λ t. Contains t (first + i)) (sym more_is) among, λ _. ap (λ b. eqb b 1) is)
      | inr ne ↦
          let kept : bit_at wider (i - 1) ≡ bit_at mask (i - 1) = bit_at_set_other w16 mask bit fits (i - 1) ne in
          let same : has_bit wider i ≡ has_bit mask i = ap (λ b. eqb b 1) kept in
          let earlier : Contains (taken ++ place ∷ []) (first + i) → Contains taken (first + i) = λ among.
          elim (Contains-push_cases taken place (first + i) among) [ inl left ↦ left | inr e ↦ absurd (ne (omega arith)) ] in (
            λ is. subst (λ t. Contains t (first + i)) (sym more_is) (Contains-append_left taken (place ∷ []) (first + i) ((before i some at_most).0 (sym same ∙ is))),
            λ among. same ∙ (before i some at_most).1 (earlier (subst (λ t. Contains t (first + i)) more_is among)),
          )
    ]

-- a rising list: no place is below the first, and none is below one before it
pub rises : (places : List ℕ) → IsStrictlyIncreasing places → (i j : ℕ) → i < j → j < length places → get_or places i 0 < get_or places j 0
rises places rising i j less within = AllPairs-from_increasing places rising i j 0 less within

pub none_below_first : (places : List ℕ) → IsStrictlyIncreasing places → All (λ place. get_or places 0 0 ≤ place) places
none_below_first places rising zero d within = let e = get_or_default places 0 0 d within in omega arith
none_below_first places rising (suc k) d within =
    let less = rises places rising 0 (suc k) (omega arith) within in
    let e = get_or_default places (suc k) 0 d within in
    omega arith

pub rest_above : (places : List ℕ) (count bound : ℕ) → IsStrictlyIncreasing places → bound < get_or places count 0 → All (λ place. bound < place) (drop count places)
rest_above places count bound rising over k d within =
    let inside : count + k < length places = omega (arith, length-drop count places) in
    let at = get_or-drop count places k d in
    let e = get_or_default places (count + k) 0 d inside in
    elim (cases_eq k 0) [
      | inl none ↦ let same : get_or places (count + k) 0 ≡ get_or places count 0 = ap (λ i. get_or places i 0) (omega arith) in omega arith
      | inr more ↦ let less = rises places rising count (count + k) (omega arith) inside in omega arith
    ]

-- where no place is left, none is at or below the bound
pub rest_none : (places : List ℕ) (count bound : ℕ) → length places ≤ count → All (λ place. bound < place) (drop count places)
rest_none places count bound all k d within = absurd (omega (arith, length-drop count places))

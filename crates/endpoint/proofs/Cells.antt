-- A ring of moments, cell by cell.
use Rattle.std.proofs.Common.{◌≡◌, ◌≢◌, ℕ, ◌+◌, ◌-◌, ◌*◌, ◌/◌, ◌%◌, ◌<◌, List, length, get_or, sym, ap, ◌∙◌, arith, inl, inr, length-set}
use Rattle.std.proofs.lemmas.List.{get_or-set_same, get_or-set_other}
use Rattle.std.proofs.lemmas.Nat.{div-add-mod', mod-mul-add, mod_below}
use Rattle.std.proofs.lemmas.Bool.{cases_lt}
use Rattle.endpoint.specs.declared.resend_rule.Times.{Times}
use Rattle.endpoint.specs.Moments.{just_sent, times_at, told}

-- of a number a * n + r, so much more than r
turned : (a n r d : ℕ) → r < n → 0 < d → d < n → (a * n + (r + d)) % n ≢ r
turned a n r d below some few = elim (cases_lt (r + d) n) [
  | inl less ↦ λ same. let is = mod-mul-add a n (r + d) less in omega (arith, same, is, some)
  | inr more ↦
      λ same.
      let row : (a + 1) * n ≡ a * n + n = grind arith in
      let over : r + d - n < n = omega arith in
      let is = mod-mul-add (a + 1) n (r + d - n) over in
      let here : (a + 1) * n + (r + d - n) ≡ a * n + (r + d) = omega (arith, row, more) in
      let both : r + d - n ≡ r = sym is ∙ ap (λ k. k % n) here ∙ same in
      omega (arith, both, few, more)
]

-- two places less than a round apart have two cells
apart : (n p q : ℕ) → q < p → p < q + n → p % n ≢ q % n
apart n p q less near same =
    let whole : q / n * n + q % n ≡ q = div-add-mod' q n in
    let under = mod_below q n (omega arith) in
    let here : q / n * n + (q % n + (p - q)) ≡ p = omega (arith, whole, less) in
    turned (q / n) n (q % n) (p - q) under (omega arith) (omega arith) (ap (λ k. k % n) here ∙ same)

pub two_cells : (n p q : ℕ) → p ≢ q → p < q + n → q < p + n → p % n ≢ q % n
two_cells n p q other near near' = elim (cases_lt q p) [
  | inl less ↦ apart n p q less near
  | inr more ↦ λ same. apart n q p (omega (arith, more, other)) near' (sym same)
]

pub told_length : (cells : List Times) (p : ℕ) (times : Times) → length (told cells p times) ≡ length cells
told_length cells p times = length-set cells (p % length cells) times

pub told_here : (cells : List Times) (p : ℕ) (times : Times) → 0 < length cells → times_at (told cells p times) p ≡ times
told_here cells p times some =
    ap (λ n. get_or (told cells p times) (p % n) (just_sent 0)) (told_length cells p times)
    ∙ get_or-set_same cells (p % length cells) times (just_sent 0) (mod_below p (length cells) some)

pub told_elsewhere : (cells : List Times) (p q : ℕ) (times : Times) → p ≢ q → p < q + length cells → q < p + length cells → times_at (told cells p times) q ≡ times_at cells q
told_elsewhere cells p q times other near near' =
    ap (λ n. get_or (told cells p times) (q % n) (just_sent 0)) (told_length cells p times)
    ∙ get_or-set_other cells (p % length cells) (q % length cells) times (just_sent 0) (λ same. two_cells (length cells) p q other near near' (sym same))

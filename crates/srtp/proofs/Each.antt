-- What holds of each of a few numbers, told one by one.
use Rattle.std.proofs.Common.{◌≡◌, ℕ, zero, suc, ◌+◌, ◌-◌, ◌<◌, inl, inr, arith}
use Rattle.std.proofs.lemmas.Bool.{cases_lt}

pub each_of_4 : (P : ℕ → Type 0) → P 0 → P 1 → P 2 → P 3 → (i : ℕ) → i < 4 → P i
each_of_4 P a b c d zero lt = a
each_of_4 P a b c d (suc zero) lt = b
each_of_4 P a b c d (suc (suc zero)) lt = c
each_of_4 P a b c d (suc (suc (suc zero))) lt = d
each_of_4 P a b c d (suc (suc (suc (suc i)))) lt = absurd (omega arith)

pub each_of_8 : (P : ℕ → Type 0) → P 0 → P 1 → P 2 → P 3 → P 4 → P 5 → P 6 → P 7 → (i : ℕ) → i < 8 → P i
each_of_8 P a b c d e f g h i lt = elim (cases_lt i 4) [
  | inl below ↦ each_of_4 P a b c d i below
  | inr above ↦
      let same : i - 4 + 4 ≡ i = omega arith in
      let there : P (i - 4 + 4) = each_of_4 (λ n. P (n + 4)) e f g h (i - 4) (omega arith) in
      rw same at there
]

pub each_of_16 : (P : ℕ → Type 0) → P 0 → P 1 → P 2 → P 3 → P 4 → P 5 → P 6 → P 7
    → P 8 → P 9 → P 10 → P 11 → P 12 → P 13 → P 14 → P 15 → (i : ℕ) → i < 16 → P i
each_of_16 P a b c d e f g h j k l m n o p q i lt = elim (cases_lt i 8) [
  | inl below ↦ each_of_8 P a b c d e f g h i below
  | inr above ↦
      let same : i - 8 + 8 ≡ i = omega arith in
      let there : P (i - 8 + 8) = each_of_8 (λ x. P (x + 8)) j k l m n o p q (i - 8) (omega arith) in
      rw same at there
]

-- What is inverse in the field, octet by octet: a test of 256 octets, computed.
use Rattle.std.proofs.Common.{◌≡◌, ℕ, ◌<◌, ◌==◌, ◌||◌, Bool, true, refl, inl, inr, arith}
use Rattle.std.proofs.lemmas.Bool.{agree_below, agree_below_at, eqb-true, or_cases}
use Rattle.srtp.specs.Field.{product, inverse, product_of, times_power}

has_inverse : ℕ → Bool
has_inverse b = (b == 0) || (product b (inverse b) == 1)

-- each of the 256 octets is looked at
all_have : agree_below has_inverse (λ b. true) 256 ≡ true
unfolding has_inverse inverse product_of times_power
all_have = refl

pub inverse_is : (b : ℕ) → 0 < b → b < 256 → product b (inverse b) ≡ 1
unfolding has_inverse
inverse_is b some octet =
    elim (or_cases (b == 0) (product b (inverse b) == 1) (agree_below_at has_inverse (λ n. true) 256 b all_have octet)) [
      | inl none ↦ let e : b ≡ 0 = eqb-true b 0 none in absurd (omega arith)
      | inr one ↦ eqb-true (product b (inverse b)) 1 one
    ]

pub inverse_of_0 : inverse 0 ≡ 0
unfolding inverse product_of times_power
inverse_of_0 = refl

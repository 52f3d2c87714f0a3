-- The octets in the lanes of words.
use Rattle.std.proofs.Common.{◌≡◌, ℕ, zero, suc, ◌-◌, ◌/◌, ◌%◌, ◌^◌, ◌<◌, List, [], ◌∷◌, get_or, bit_xor, bit_and, ap, ◌∙◌, inl, inr, arith}
use Rattle.std.proofs.lemmas.Bool.{cases_lt}
use Rattle.std.proofs.lemmas.Nat.{xor_shr, xor_mod, and_shr, and_mod, mul-le}
use Rattle.std.proofs.Math.Nat.{pow-suc}
use Rattle.std.proofs.lemmas.Nat.Bits.{bit_at-lt, bit_at_cat_low, bit_at_cat_high, bit_at_lowest, same_from_bits_below}
use Rattle.std.specs.Int.{bit_at}
use Rattle.srtp.specs.Lanes.{number_of, lane}

pub xor_at : (a b l : ℕ) → bit_at (bit_xor a b) l ≡ bit_xor (bit_at a l) (bit_at b l)
xor_at a b l = ap (λ n. n % 2) (xor_shr a b l) ∙ xor_mod (a / 2 ^ l) (b / 2 ^ l) 1

pub and_at : (a b l : ℕ) → bit_at (bit_and a b) l ≡ bit_and (bit_at a l) (bit_at b l)
and_at a b l = ap (λ n. n % 2) (and_shr a b l) ∙ and_mod (a / 2 ^ l) (b / 2 ^ l) 1

number_lt : (bit : ℕ → ℕ) → ((k : ℕ) → bit k < 2) → (n : ℕ) → number_of bit n < 2 ^ n
unfolding number_of
number_lt bit bits zero = omega arith
number_lt bit bits (suc n) =
    let first : bit n < 2 = bits n in
    omega (arith, number_lt bit bits n, mul-le (bit n) (2 ^ n) 1 (2 ^ n) (omega arith) (omega arith), pow-suc 2 n)

number_bit : (bit : ℕ → ℕ) → ((k : ℕ) → bit k < 2) → (n k : ℕ) → k < n → bit_at (number_of bit n) k ≡ bit k
unfolding number_of
number_bit bit bits zero k lt = absurd (omega arith)
number_bit bit bits (suc n) k lt = elim (cases_lt k n) [
  | inl below ↦ bit_at_cat_low (bit n) n (number_of bit n) k below ∙ number_bit bit bits n k below
  | inr top ↦
      let e : k ≡ n = omega arith in
      let none : n - n ≡ 0 = omega arith in
      let small : bit n % 2 ≡ bit n = omega (arith, bits n) in
      rw e
      (bit_at_cat_high (bit n) n (number_of bit n) n (number_lt bit bits n) (omega arith) ∙ ap (bit_at (bit n)) none
      ∙ bit_at_lowest (bit n) ∙ small)
]

pub lane_lt : (words : List ℕ) (l : ℕ) → lane words l < 256
unfolding lane
lane_lt words l = number_lt _ (λ k. bit_at-lt (get_or words k 0) l) 8

pub lane_bit : (words : List ℕ) (l k : ℕ) → k < 8 → bit_at (lane words l) k ≡ bit_at (get_or words k 0) l
unfolding lane
lane_bit words l k lt = number_bit _ (λ n. bit_at-lt (get_or words n 0) l) 8 k lt

-- an octet that has the bits of a lane
pub lane_from : (words : List ℕ) (l x : ℕ) → x < 256 → ((k : ℕ) → k < 8 → bit_at (get_or words k 0) l ≡ bit_at x k)
    → lane words l ≡ x
lane_from words l x octet same =
    same_from_bits_below 8 (lane words l) x (lane_lt words l) octet (λ k lt. lane_bit words l k lt ∙ same k lt)

-- the bits of an octet, the lowest one first
unfoldable pub bits_of : ℕ → List ℕ
bits_of b = bit_at b 0 ∷ bit_at b 1 ∷ bit_at b 2 ∷ bit_at b 3 ∷ bit_at b 4 ∷ bit_at b 5 ∷ bit_at b 6 ∷ bit_at b 7 ∷ []

-- in a lane they are the words' bits there
pub lane_bits : (words : List ℕ) (l : ℕ)
    → let bit = λ (k : ℕ). bit_at (get_or words k 0) l in
    bits_of (lane words l) ≡ bit 0 ∷ bit 1 ∷ bit 2 ∷ bit 3 ∷ bit 4 ∷ bit 5 ∷ bit 6 ∷ bit 7 ∷ []
unfolding bits_of
lane_bits words l = λ i.
    bit 0 (omega arith) i ∷ bit 1 (omega arith) i ∷ bit 2 (omega arith) i ∷ bit 3 (omega arith) i
    ∷ bit 4 (omega arith) i ∷ bit 5 (omega arith) i ∷ bit 6 (omega arith) i ∷ bit 7 (omega arith) i ∷ []
  where
    bit : (k : ℕ) → k < 8 → bit_at (lane words l) k ≡ bit_at (get_or words k 0) l
    bit = lane_bit words l

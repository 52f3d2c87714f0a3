-- How many numbers a pair of a generic NACK names.
use Rattle.std.proofs.Common.{◌≡◌, ℕ, zero, suc, ◌+◌, ◌-◌, ◌/◌, ◌%◌, ◌^◌, ◌<◌, ◌≤◌, ◌==◌, Bool, true, false, List, [], ◌∷◌, length, map, filter, ap, sym, ◌∙◌, refl, arith, count_ones}
use Rattle.std.specs.Int.{bit_at}
use Rattle.std.proofs.lemmas.Nat.Bits.{bit_at-suc, bit_at_lowest, bit_at-lt}
use Rattle.fbwire.specs.declared.nack.Pair.{Pair}
use Rattle.fbwire.specs.Nack.{has_bit, up_from, mask_bits, masked_numbers, pair_numbers}
use lib.Count.{ones_step, ones-le}

abbrev weight : Bool → ℕ
weight true = 1
weight false = 0

bit_weight : (x : ℕ) → x < 2 → weight (x == 1) ≡ x
bit_weight zero small = refl
bit_weight (suc zero) small = refl
bit_weight (suc (suc x)) small = absurd (omega arith)

-- how many pass, the first of them first
one_more : (f : ℕ → Bool) (first count : ℕ) → length (filter f (up_from first (suc count))) ≡ weight (f first) + length (filter f (up_from (suc first) count))
one_more f first count = counted (f first) refl where
  counted : (b : Bool) → f first ≡ b → length (filter f (up_from first (suc count))) ≡ weight (f first) + length (filter f (up_from (suc first) count))
  counted true e = rw e (omega arith)
  counted false e = rw e (omega arith)

same_many : (f g : ℕ → Bool) (first count : ℕ) → ((i : ℕ) → first ≤ i → f i ≡ g i) → length (filter f (up_from first count)) ≡ length (filter g (up_from first count))
same_many f g first zero same = refl
same_many f g first (suc count) same =
    one_more f first count ∙ ap (λ b. weight b + length (filter f (up_from (suc first) count))) (same first (omega arith))
    ∙ ap (λ n. weight (g first) + n) (same_many f g (suc first) count (λ i l. same i (omega arith)))
    ∙ sym (one_more g first count)

-- as many as bits are set
ones_above : (d n first : ℕ) → n < 2 ^ d → length (filter (λ i. bit_at n (i - first) == 1) (up_from first d)) ≡ count_ones n
ones_above zero n first l = omega (arith, ones-le 0 n l)
ones_above (suc d) n first l =
    let step = ones_step n in
    let rest = ones_above d (n / 2) (suc first) (omega (arith, l)) in
    let one = one_more (λ i. bit_at n (i - first) == 1) first d in
    let here : first - first ≡ 0 = omega arith in
    let low : weight (bit_at n (first - first) == 1) ≡ n % 2 = ap (λ k. weight (bit_at n k == 1)) here ∙ bit_weight (bit_at n 0) (bit_at-lt n 0) ∙ bit_at_lowest n in
    let moved = same_many (λ i. bit_at n (i - first) == 1) (λ i. bit_at (n / 2) (i - suc first) == 1) (suc first) d
    (λ i l. let up : i - first ≡ suc (i - suc first) = omega arith in ap (λ k. bit_at n k == 1) up ∙ ap (λ x. x == 1) (bit_at-suc n (i - suc first))) in
    omega (arith, step, rest, one, low, moved)

length_mapped : (f : ℕ → ℕ) (xs : List ℕ) → length (map f xs) ≡ length xs
length_mapped f [] = refl
length_mapped f (x ∷ xs) = ap suc (length_mapped f xs)

masked_count : (pid mask : ℕ) → mask < 2 ^ 16 → length (masked_numbers pid mask) ≡ count_ones mask
unfolding mask_bits
masked_count pid mask fits = length_mapped (λ i. (pid + i) % 65536) (filter (has_bit mask) (up_from 1 16)) ∙ ones_above 16 mask 1 fits

pub pair_count : (pair : Pair) → pair.blp < 2 ^ 16 → length (pair_numbers pair) ≡ 1 + count_ones pair.blp
pair_count pair fits = let many = masked_count pair.pid pair.blp fits in omega (arith, many)

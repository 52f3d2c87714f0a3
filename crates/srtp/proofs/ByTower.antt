-- The S-box by a tower of fields, in a lane.
use Rattle.std.proofs.Common.{◌≡◌, ℕ, ◌<◌, ◌==◌, List, true, refl, ap, ◌∙◌, get_or}
use Rattle.std.proofs.lemmas.Bool.{agree_below, agree_below_at, eqb-true}
use Rattle.std.proofs.lemmas.Nat.Bits.{bit_at_ones}
use Rattle.std.specs.Int.{bit_at}
use Rattle.srtp.specs.declared.tower.Pair.{Pair}
use Rattle.srtp.specs.declared.tower.Quad.{Quad}
use Rattle.srtp.specs.declared.tower.Tower.{Tower}
use Rattle.srtp.specs.Field.{inverse, product_of, times_power}
use Rattle.srtp.specs.Aes.{sub_byte}
use Rattle.srtp.specs.Lanes.{number_of, lane}
use Rattle.srtp.specs.Tower.{sum_2, product_2, square_2, times_w, sum_4, product_4, inverse_4, scaled_square, inverse_8, to_tower, affine_of}
use Rattle.srtp.proofs.LaneBits.{xor_at, and_at, lane_lt, bits_of, lane_bits}

through_tower : ℕ → ℕ
through_tower b = number_of (λ k. get_or (affine_of 1 (inverse_8 (to_tower (bits_of b)))) k 0) 8

-- each of the 256 octets is looked at
all_are : agree_below (λ b. through_tower b == sub_byte b) (λ b. true) 256 ≡ true
unfolding through_tower bits_of sub_byte inverse product_of times_power number_of sum_2 product_2 square_2 times_w sum_4 product_4 inverse_4 scaled_square inverse_8 to_tower affine_of
all_are = refl

tower_is : (b : ℕ) → b < 256 → through_tower b ≡ sub_byte b
tower_is b octet = eqb-true _ _ (agree_below_at (λ n. through_tower n == sub_byte n) (λ n. true) 256 b all_are octet)

-- ---- what stands in a lane

pair_at : ℕ → Pair → Pair
pair_at l a = record { high = bit_at a.high l; low = bit_at a.low l }

quad_at : ℕ → Quad → Quad
quad_at l a = record { high = pair_at l a.high; low = pair_at l a.low }

tower_at : ℕ → Tower → Tower
tower_at l a = record { high = quad_at l a.high; low = quad_at l a.low }

sum_2_at : (l : ℕ) (a b : Pair) → pair_at l (sum_2 a b) ≡ sum_2 (pair_at l a) (pair_at l b)
unfolding pair_at sum_2
sum_2_at l a b = simp xor_at

product_2_at : (l : ℕ) (a b : Pair) → pair_at l (product_2 a b) ≡ product_2 (pair_at l a) (pair_at l b)
unfolding pair_at product_2
product_2_at l a b = simp (xor_at, and_at)

square_2_at : (l : ℕ) (a : Pair) → pair_at l (square_2 a) ≡ square_2 (pair_at l a)
unfolding pair_at square_2
square_2_at l a = refl

times_w_at : (l : ℕ) (a : Pair) → pair_at l (times_w a) ≡ times_w (pair_at l a)
unfolding pair_at times_w
times_w_at l a = simp xor_at

sum_4_at : (l : ℕ) (a b : Quad) → quad_at l (sum_4 a b) ≡ sum_4 (quad_at l a) (quad_at l b)
unfolding quad_at sum_4
sum_4_at l a b = simp sum_2_at

product_4_at : (l : ℕ) (a b : Quad) → quad_at l (product_4 a b) ≡ product_4 (quad_at l a) (quad_at l b)
unfolding quad_at product_4
product_4_at l a b = simp (sum_2_at, product_2_at, times_w_at)

inverse_4_at : (l : ℕ) (a : Quad) → quad_at l (inverse_4 a) ≡ inverse_4 (quad_at l a)
unfolding quad_at inverse_4
inverse_4_at l a = simp (sum_2_at, product_2_at, square_2_at, times_w_at)

scaled_square_at : (l : ℕ) (a : Quad) → quad_at l (scaled_square a) ≡ scaled_square (quad_at l a)
unfolding quad_at scaled_square
scaled_square_at l a = simp (sum_2_at, square_2_at, times_w_at)

inverse_8_at : (l : ℕ) (a : Tower) → tower_at l (inverse_8 a) ≡ inverse_8 (tower_at l a)
unfolding tower_at inverse_8
inverse_8_at l a = simp (sum_4_at, product_4_at, inverse_4_at, scaled_square_at)

to_tower_at : (words : List ℕ) (l : ℕ) → tower_at l (to_tower words) ≡ to_tower (bits_of (lane words l))
unfolding pair_at quad_at tower_at to_tower
to_tower_at words l = rw (lane_bits words l) (simp xor_at)

affine_of_at : (a : Tower) (l : ℕ) → l < 64
    → lane (affine_of 0xffff_ffff_ffff_ffff a) l ≡ number_of (λ k. get_or (affine_of 1 (tower_at l a)) k 0) 8
unfolding lane number_of affine_of pair_at quad_at tower_at
affine_of_at a l lt =
    let one : bit_at 0xffff_ffff_ffff_ffff l ≡ 1 = bit_at_ones 64 l lt in
    simp (xor_at, one)

-- what goes through the tower comes out as through the S-box
pub lane_substituted : (words : List ℕ) (l : ℕ) → l < 64
    → lane (affine_of 0xffff_ffff_ffff_ffff (inverse_8 (to_tower words))) l ≡ sub_byte (lane words l)
unfolding through_tower
lane_substituted words l lt =
    affine_of_at (inverse_8 (to_tower words)) l lt
    ∙ ap (λ (a : Tower). number_of (λ k. get_or (affine_of 1 a) k 0) 8)
    (inverse_8_at l (to_tower words) ∙ ap inverse_8 (to_tower_at words l))
    ∙ tower_is (lane words l) (lane_lt words l)

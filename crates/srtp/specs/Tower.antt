-- The field of AES as a tower of fields (Canright, "A very compact S-box for AES", 2005): GF(2^8) over GF(2^4) over
-- GF(2^2) over GF(2), each of dimension two over the one below, by a basis whose two elements add up to 1. A
-- coefficient is a bit. Every operation is by exclusive or and by and, so it is the same where a coefficient is a word
-- that holds a bit in each lane.
use Rattle.std.specs.Prelude.{ℕ, List, [], ◌∷◌, bit_xor, bit_and, slice_index}
use Rattle.srtp.specs.declared.tower.Pair.{Pair}
use Rattle.srtp.specs.declared.tower.Quad.{Quad}
use Rattle.srtp.specs.declared.tower.Tower.{Tower}

-- ---- GF(2^2): high W + low W^2, where W^2 = W + 1

unfoldable pub sum_2 : Pair → Pair → Pair
sum_2 a b = record { high = bit_xor a.high b.high; low = bit_xor a.low b.low }

-- W W = W^2, W^2 W^2 = W, and W W^2 = 1 = W + W^2
unfoldable pub product_2 : Pair → Pair → Pair
product_2 a b =
    let both = bit_and (bit_xor a.high a.low) (bit_xor b.high b.low) in
    record { high = bit_xor both (bit_and a.high b.high); low = bit_xor both (bit_and a.low b.low) }

-- the square, which is the inverse too, since a^3 = 1
unfoldable pub square_2 : Pair → Pair
square_2 a = record { high = a.low; low = a.high }

-- the product by W
unfoldable pub times_w : Pair → Pair
times_w a = record { high = a.low; low = bit_xor a.high a.low }

-- ---- GF(2^4): high Z + low Z^4, where Z + Z^4 = 1 and Z Z^4 = W

unfoldable pub sum_4 : Quad → Quad → Quad
sum_4 a b = record { high = sum_2 a.high b.high; low = sum_2 a.low b.low }

-- Z Z = Z + W, Z^4 Z^4 = Z^4 + W
unfoldable pub product_4 : Quad → Quad → Quad
product_4 a b =
    let both = times_w (product_2 (sum_2 a.high a.low) (sum_2 b.high b.low)) in
    record { high = sum_2 both (product_2 a.high b.high); low = sum_2 both (product_2 a.low b.low) }

-- The inverse, and 0 of 0: the conjugate by the inverse of the norm, high low + W (high + low)^2.
unfoldable pub inverse_4 : Quad → Quad
inverse_4 a =
    let norm = sum_2 (times_w (square_2 (sum_2 a.high a.low))) (product_2 a.high a.low) in
    record { high = product_2 (square_2 norm) a.low; low = product_2 (square_2 norm) a.high }

-- the square by W^2 Z
unfoldable pub scaled_square : Quad → Quad
scaled_square a = record { high = times_w (times_w (square_2 a.high)); low = square_2 (sum_2 a.high a.low) }

-- ---- GF(2^8): high Y + low Y^16, where Y + Y^16 = 1 and Y Y^16 = W^2 Z

-- the inverse, and 0 of 0
unfoldable pub inverse_8 : Tower → Tower
inverse_8 a =
    let norm = sum_4 (scaled_square (sum_4 a.high a.low)) (product_4 a.high a.low) in
    record { high = product_4 (inverse_4 norm) a.low; low = product_4 (inverse_4 norm) a.high }

-- ---- there and back, with Y = {fe}, Z = {5c} and W = {bc}

-- The coefficients of the octet of eight bits, the lowest one first.
unfoldable pub to_tower : List ℕ → Tower
to_tower bits =
    let ends = bit_xor (slice_index bits 0) (slice_index bits 6) in
    let sum = bit_xor ends (slice_index bits 5) in
    let next = bit_xor (slice_index bits 1) (slice_index bits 2) in
    record {
      high = record {
        high = record { high = bit_xor sum (slice_index bits 1); low = bit_xor sum (slice_index bits 7) };
        low = record { high = bit_xor (bit_xor sum (slice_index bits 7)) next; low = bit_xor sum (slice_index bits 4) };
      };
      low = record {
        high = record { high = sum; low = bit_xor (bit_xor ends (slice_index bits 3)) next };
        low = record {
          high =
              bit_xor
              (bit_xor (bit_xor (slice_index bits 3) (slice_index bits 4)) (slice_index bits 7))
              (bit_xor (slice_index bits 0) (slice_index bits 1));
          low = slice_index bits 0;
        };
      };
    }

-- The affine map of the S-box of the octet that has these coefficients: its eight bits. Where {63} has a bit, `one` is
-- brought in: 1, or a word of ones.
unfoldable pub affine_of : (one : ℕ) → Tower → List ℕ
affine_of one a =
    let top = bit_xor a.high.high.high a.low.low.high in
    let next = bit_xor a.high.high.low a.high.low.low in
    let fourth = bit_xor top a.high.low.high in
    let fifth = bit_xor a.high.low.low a.low.high.low in
    bit_xor (bit_xor next a.low.high.high) one
    ∷ bit_xor (bit_xor (bit_xor a.high.high.high a.high.high.low) a.low.high.high) one
    ∷ bit_xor (bit_xor top a.low.low.low) fifth
    ∷ bit_xor fourth next
    ∷ fourth
    ∷ bit_xor fifth one
    ∷ bit_xor (bit_xor a.high.low.high a.low.low.high) one
    ∷ top
    ∷ []

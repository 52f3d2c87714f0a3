-- The finite field GF(2^8) of AES (FIPS 197, section 4): an octet is a polynomial, bit i the coefficient of x^i, and sums are by
-- exclusive or.
use Rattle.std.specs.Prelude.{ℕ, zero, suc, ◌*◌, ◌%◌, bit_xor}
use Rattle.std.specs.Int.{bit_at}

-- The product by x, which is {02}: one bit to the left, and {1b} where bit 7 falls out (section 4.2.1).
abbrev pub xtime : ℕ → ℕ
xtime b = bit_xor ((b * 2) % 256) (bit_at b 7 * 0x1b)

-- the product by x^n
unfoldable pub times_power : ℕ → ℕ → ℕ
times_power zero a = a
times_power (suc n) a = xtime (times_power n a)

-- the product of a and the lowest n bits of b: the sum of the products by x^i, for each of these bits that is set
unfoldable pub product_of : ℕ → ℕ → ℕ → ℕ
product_of zero a b = 0
product_of (suc n) a b = bit_xor (product_of n a b) (bit_at b n * times_power n a)

-- the product (section 4.2)
abbrev pub product : ℕ → ℕ → ℕ
product a b = product_of 8 a b

abbrev pub square : ℕ → ℕ
square a = product a a

-- b^3, b^12, b^15 and b^240 on the way to b^254
abbrev pub cube : ℕ → ℕ
cube b = product (square b) b

abbrev pub power_12 : ℕ → ℕ
power_12 b = square (square (cube b))

abbrev pub power_15 : ℕ → ℕ
power_15 b = product (power_12 b) (cube b)

abbrev pub power_240 : ℕ → ℕ
power_240 b = square (square (square (square (power_15 b))))

-- b^254 = b^240 b^12 b^2: the multiplicative inverse of b, and 0 of 0 (section 4.4)
unfoldable pub inverse : ℕ → ℕ
inverse b = product (product (power_240 b) (power_12 b)) (square b)

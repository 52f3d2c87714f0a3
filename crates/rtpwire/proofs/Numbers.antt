-- Numbers of two and of four octets in network order, both ways.
use Rattle.std.proofs.Common.{◌≡◌, ℕ, ◌+◌, ◌*◌, ◌/◌, ◌%◌, ◌^◌, ◌<◌, ◌≤◌, List, [], ◌∷◌, ◌++◌, length, take, drop, slice_index, arith, refl}
use Rattle.std.proofs.lemmas.List.{get_or-drop}
use Rattle.byteorder.specs.Endian.{big_bytes, big_number}
use Rattle.byteorder.specs.Numbers.{big_number-reads_back, big_from-lt}

-- each octet is below 256
abbrev pub EachOctet : List ℕ → Type 0
EachOctet octets = (i : ℕ) → slice_index octets i < 256

pub EachOctet-drop : (n : ℕ) (octets : List ℕ) → EachOctet octets → EachOctet (drop n octets)
EachOctet-drop n octets all i = rw get_or-drop (all (n + i))

pub number-again : (n x : ℕ) (rest : List ℕ) → x < 256 ^ n → big_number n (big_bytes n x ++ rest) ≡ x
number-again n x rest fits = big_number-reads_back n x rest fits

pub number-fits : (n : ℕ) (octets : List ℕ) → EachOctet octets → big_number n octets < 256 ^ n
number-fits n octets all = big_from-lt 0 n octets all

pub bytes-again_2 : (octets : List ℕ) → 2 ≤ length octets → EachOctet octets → big_bytes 2 (big_number 2 octets) ≡ take 2 octets
bytes-again_2 [] long all = absurd (omega arith)
bytes-again_2 (a ∷ []) long all = absurd (omega arith)
bytes-again_2 (a ∷ b ∷ rest) long all =
    let small_a : a < 256 = all 0 in
    let small_b : b < 256 = all 1 in
    let first : (a * 256 + (b * 1 + 0)) / 256 % 256 ≡ a = omega arith in
    let second : (a * 256 + (b * 1 + 0)) % 256 ≡ b = omega arith in
    rw (first, second) refl

pub bytes-again_4 : (octets : List ℕ) → 4 ≤ length octets → EachOctet octets → big_bytes 4 (big_number 4 octets) ≡ take 4 octets
bytes-again_4 [] long all = absurd (omega arith)
bytes-again_4 (a ∷ []) long all = absurd (omega arith)
bytes-again_4 (a ∷ b ∷ []) long all = absurd (omega arith)
bytes-again_4 (a ∷ b ∷ c ∷ []) long all = absurd (omega arith)
bytes-again_4 (a ∷ b ∷ c ∷ d ∷ rest) long all =
    let small_a : a < 256 = all 0 in
    let small_b : b < 256 = all 1 in
    let small_c : c < 256 = all 2 in
    let small_d : d < 256 = all 3 in
    let first : (a * 16777216 + (b * 65536 + (c * 256 + (d * 1 + 0)))) / 16777216 % 256 ≡ a = omega arith in
    let second : (a * 16777216 + (b * 65536 + (c * 256 + (d * 1 + 0)))) / 65536 % 256 ≡ b = omega arith in
    let third : (a * 16777216 + (b * 65536 + (c * 256 + (d * 1 + 0)))) / 256 % 256 ≡ c = omega arith in
    let fourth : (a * 16777216 + (b * 65536 + (c * 256 + (d * 1 + 0)))) % 256 ≡ d = omega arith in
    rw (first, second, third, fourth) refl

-- Octets, and the numbers that they spell in network order.
use Rattle.std.proofs.Common.{◌≡◌, ℕ, ◌+◌, ◌*◌, ◌/◌, ◌%◌, ◌^◌, ◌<◌, ◌≤◌, List, [], ◌∷◌, ◌++◌, length, take, drop, get_or, inl, inr, arith}
use Rattle.std.proofs.lemmas.List.{get_or-drop, get_or-take, get_or_past, get_or-append-add, length-take}
use Rattle.std.proofs.lemmas.Bool.{cases_lt}
use Rattle.byteorder.specs.Endian.{big_bytes, big_number}
use Rattle.byteorder.specs.Numbers.{big_from-lt}

-- each is below 256
abbrev pub AreOctets : List ℕ → Type 0
AreOctets octets = (i : ℕ) → get_or octets i 0 < 256

pub AreOctets-drop : (n : ℕ) (octets : List ℕ) → AreOctets octets → AreOctets (drop n octets)
AreOctets-drop n octets h i = rw get_or-drop (h (n + i))

pub AreOctets-take : (n : ℕ) (octets : List ℕ) → AreOctets octets → AreOctets (take n octets)
AreOctets-take n octets h i =
    elim (cases_lt i n) [
      | inl below ↦ rw (get_or-take n octets i 0 below) (h i)
      | inr above ↦ rw (get_or_past (take n octets) i 0 (omega (arith, length-take n octets))) (omega arith)
    ]

pub AreOctets-rest : (xs ys : List ℕ) → AreOctets (xs ++ ys) → AreOctets ys
AreOctets-rest xs ys h i = let at = get_or-append-add xs ys i 0 in let fits = h (length xs + i) in omega arith

pub number_2_fits : (octets : List ℕ) → AreOctets octets → big_number 2 octets < 2 ^ 16
number_2_fits octets h = big_from-lt 0 2 octets h

pub number_4_fits : (octets : List ℕ) → AreOctets octets → big_number 4 octets < 2 ^ 32
number_4_fits octets h = big_from-lt 0 4 octets h

-- two octets are the spelling of the number that they spell
pub two_again : (octets : List ℕ) → AreOctets octets → 2 ≤ length octets → big_bytes 2 (big_number 2 octets) ++ drop 2 octets ≡ octets
two_again [] h long = absurd (omega arith)
two_again (a ∷ []) h long = absurd (omega arith)
two_again (a ∷ b ∷ rest) h long =
    let fits_a = h 0 in let fits_b = h 1 in
    let high : (a * 256 + (b * 1 + 0)) / 256 % 256 ≡ a = omega arith in
    let low : (a * 256 + (b * 1 + 0)) % 256 ≡ b = omega arith in
    λ i. high i ∷ low i ∷ rest

pub four_again : (octets : List ℕ) → AreOctets octets → 4 ≤ length octets → big_bytes 4 (big_number 4 octets) ++ drop 4 octets ≡ octets
four_again [] h long = absurd (omega arith)
four_again (a ∷ []) h long = absurd (omega arith)
four_again (a ∷ b ∷ []) h long = absurd (omega arith)
four_again (a ∷ b ∷ c ∷ []) h long = absurd (omega arith)
four_again (a ∷ b ∷ c ∷ d ∷ rest) h long =
    let fits_a = h 0 in let fits_b = h 1 in let fits_c = h 2 in let fits_d = h 3 in
    let first : (a * 16777216 + (b * 65536 + (c * 256 + (d * 1 + 0)))) / 16777216 % 256 ≡ a = omega arith in
    let second : (a * 16777216 + (b * 65536 + (c * 256 + (d * 1 + 0)))) / 65536 % 256 ≡ b = omega arith in
    let third : (a * 16777216 + (b * 65536 + (c * 256 + (d * 1 + 0)))) / 256 % 256 ≡ c = omega arith in
    let fourth : (a * 16777216 + (b * 65536 + (c * 256 + (d * 1 + 0)))) % 256 ≡ d = omega arith in
    λ i. first i ∷ second i ∷ third i ∷ fourth i ∷ rest

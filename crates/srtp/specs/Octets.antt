-- Lists of octets, which are numbers below 256.
use Rattle.std.specs.Prelude.{ℕ, List, [], ◌∷◌, bit_xor}

-- Each octet with the one at its place in the second list, by exclusive or. Where that list ends, octets stay as they are.
abbrev pub xor_octets : List ℕ → List ℕ → List ℕ
xor_octets [] ys = []
xor_octets (x ∷ xs) [] = x ∷ xs
xor_octets (x ∷ xs) (y ∷ ys) = bit_xor x y ∷ xor_octets xs ys

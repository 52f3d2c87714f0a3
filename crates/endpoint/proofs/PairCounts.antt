-- How many numbers pairs name, with one pair more.
use Rattle.std.proofs.Common.{◌≡◌, ◌+◌, List, [], ◌∷◌, ◌++◌, length, ap, arith, length-append}
use Rattle.std.proofs.lemmas.Grind.{flat_map-append}
use Rattle.fbwire.specs.declared.nack.Pair.{Pair}
use Rattle.fbwire.specs.Nack.{pair_numbers, numbers_of}

pub count_more : (pairs : List Pair) (pair : Pair) → length (numbers_of (pairs ++ pair ∷ [])) ≡ length (numbers_of pairs) + length (pair_numbers pair)
count_more pairs pair =
    let split = ap length (flat_map-append pair_numbers pairs (pair ∷ [])) in
    let joined = length-append (numbers_of pairs) (numbers_of (pair ∷ [])) in
    let last = length-append (pair_numbers pair) [] in
    omega (arith, split, joined, last)

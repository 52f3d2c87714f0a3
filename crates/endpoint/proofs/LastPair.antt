-- The number that pairs name last is one of the last pair.
use Rattle.std.proofs.Common.{◌≡◌, ℕ, List, [], ◌∷◌, ◌++◌, Option, Some, None, refl, ◌∙◌}
use Rattle.fbwire.specs.declared.nack.Pair.{Pair}
use Rattle.fbwire.specs.Nack.{masked_numbers, pair_numbers, numbers_of}
use Rattle.endpoint.specs.Answering.{last_of, last_pair}

last_append : (before : Option ℕ) (xs ys : List ℕ) → last_of before (xs ++ ys) ≡ last_of (last_of before xs) ys
last_append before [] ys = refl
last_append before (x ∷ xs) ys = last_append (Some x) xs ys

-- the last number of a pair, where there is one
abbrev pub last_by : (before : Option ℕ) → Option Pair → Option ℕ
last_by before None = before
last_by before (Some pair) = last_of (Some pair.pid) (masked_numbers pair.pid pair.blp)

last_from : (before : Option ℕ) (last : Option Pair) (pairs : List Pair) → last_of (last_by before last) (numbers_of pairs) ≡ last_by before (last_pair last pairs)
last_from before last [] = refl
last_from before last (pair ∷ pairs) = last_append (last_by before last) (pair_numbers pair) (numbers_of pairs) ∙ last_from before (Some pair) pairs

pub last_of_the_last : (before : Option ℕ) (pairs : List Pair) → last_of before (numbers_of pairs) ≡ last_by before (last_pair None pairs)
last_of_the_last before pairs = last_from before None pairs

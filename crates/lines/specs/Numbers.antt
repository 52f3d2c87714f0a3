-- Words that are numbers, each between its bounds.
use Rattle.std.specs.Prelude.{ℕ, List, [], ◌∷◌, Option, Some, None}
use Rattle.lines.specs.Steps.{◌>>=◌}
use Rattle.lines.specs.Decimal.{decimal_between}

-- the numbers of the first words, one between each of these bounds, and the words that are left
abbrev pub numbers_first : List (ℕ × ℕ) → List (List ℕ) → Option (List ℕ × List (List ℕ))
numbers_first [] words = Some ([], words)
numbers_first (bounds ∷ others) [] = None
numbers_first (bounds ∷ others) (word ∷ words) = do
  number ← decimal_between bounds.0 bounds.1 word
  more ← numbers_first others words
  Some (number ∷ more.0, more.1)

-- the numbers, if no word is left
abbrev pub if_all : List ℕ → List (List ℕ) → Option (List ℕ)
if_all numbers [] = Some numbers
if_all numbers (word ∷ words) = None

-- the number of each word, between its bounds; there are as many words as bounds
abbrev pub numbers_between : List (ℕ × ℕ) → List (List ℕ) → Option (List ℕ)
numbers_between bounds words = do
  first ← numbers_first bounds words
  if_all first.0 first.1

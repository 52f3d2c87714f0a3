-- Lines.
use Rattle.std.specs.Prelude.{ℕ, List, [], ◌∷◌, ◌++◌, codes}
use Rattle.std.specs.Fmt.{decimal}
use Rattle.std.specs.List.{flat_map}

abbrev pub behind_space : List ℕ → List ℕ
behind_space word = codes " " ++ word

-- words with one space between them
abbrev pub joined : List (List ℕ) → List ℕ
joined [] = []
joined (word ∷ words) = word ++ flat_map behind_space words

-- words with one space between them, and a line feed
abbrev pub line_of : List (List ℕ) → List ℕ
line_of words = joined words ++ codes "\n"

-- the line of a refusal
abbrev pub refused_line : (number : ℕ) → List ℕ
refused_line number = line_of (codes "refused" ∷ decimal number ∷ [])

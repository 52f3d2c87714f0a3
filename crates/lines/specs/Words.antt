-- The words of a line. Text is a list of octets, and 32 is the space.
use Rattle.std.specs.Prelude.{ℕ, ◌==◌, List, [], ◌∷◌, if◌then◌else◌, Option, Some, None}
use Rattle.std.specs.Borrow.{Bor}

-- A line has at most so many octets, its line feed not counted. No config line and no event line needs
-- them all: the limit bounds what a reader has to hold.
abbrev pub longest_line : ℕ
longest_line = 4096

-- an octet put before the first word
abbrev pub before_first_word : ℕ → List (List ℕ) → List (List ℕ)
before_first_word c [] = (c ∷ []) ∷ []
before_first_word c (word ∷ words) = (c ∷ word) ∷ words

-- What stands between the single spaces of a line. Where a space begins or ends the line, or follows
-- another, a word is empty.
abbrev pub words_of : List ℕ → List (List ℕ)
words_of [] = [] ∷ []
words_of (c ∷ more) = if c == 32 then [] ∷ words_of more else before_first_word c (words_of more)

-- the words of what is left of a line
abbrev pub words_left : Option (Bor (List ℕ)) → List (List ℕ)
words_left None = []
words_left (Some rest) = words_of rest.now

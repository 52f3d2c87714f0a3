-- The lines of a text.
use Rattle.std.specs.Prelude.{ℕ, ◌==◌, List, [], ◌∷◌, if◌then◌else◌}
use Rattle.std.specs.List.{list_any}

-- a character put before the first whole line, if there is one
abbrev pub before_first_line : ℕ → List (List ℕ) → List (List ℕ)
before_first_line c [] = []
before_first_line c (line ∷ lines) = (c ∷ line) ∷ lines

-- the lines of a text that end in a line feed, each without it
abbrev pub lines_of : List ℕ → List (List ℕ)
lines_of [] = []
lines_of (c ∷ more) = if c == 10 then [] ∷ lines_of more else before_first_line c (lines_of more)

-- what stands after the last line feed
abbrev pub tail_of : List ℕ → List ℕ
tail_of [] = []
tail_of (c ∷ more) = if list_any (λ x. x == 10) (c ∷ more) then tail_of more else c ∷ more

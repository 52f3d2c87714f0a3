-- Decimals.
use Rattle.std.specs.Prelude.{ℕ, ◌==◌, ◌&&◌, nat_le, not, List, [], ◌∷◌, if◌then◌else◌, Option, Some, None, Bool, false}
use Rattle.std.specs.Char.{is_ascii_digit}
use Rattle.std.specs.List.{list_all}
use Rattle.std.specs.Str.Parse.{digits_value}
use Rattle.lines.specs.Steps.{◌>>=◌}

-- `0`, or digits that don't begin with `0` (48)
abbrev pub is_decimal : List ℕ → Bool
is_decimal [] = false
is_decimal (c ∷ []) = is_ascii_digit c
is_decimal (c ∷ d ∷ more) = not (c == 48) && list_all is_ascii_digit (c ∷ d ∷ more)

-- the number that a word writes, if it is at most this
abbrev pub decimal_up_to : ℕ → List ℕ → Option ℕ
decimal_up_to most word = if is_decimal word && nat_le (digits_value 10 word) most then Some (digits_value 10 word) else None

-- the number that a word writes, if it lies within these bounds
abbrev pub decimal_between : ℕ → ℕ → List ℕ → Option ℕ
decimal_between least most word = do
  number ← decimal_up_to most word
  if nat_le least number then Some number else None

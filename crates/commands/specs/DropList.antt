-- Which packets of a run are dropped, as text. Text is a list of octets, and 44 is the comma.
use Rattle.std.specs.Prelude.{◌≡◌, ℕ, ◌+◌, ◌==◌, nat_lt, List, [], ◌∷◌, codes, if◌then◌else◌, Option, Some, None, IsSome}
use Rattle.std.specs.Borrow.{Bor}
use Rattle.std.specs.Str.{bytes_eq}
use Rattle.lines.specs.Steps.{◌>>=◌}
use Rattle.lines.specs.Words.{before_first_word}
use Rattle.lines.specs.Decimal.{decimal_between}
use Rattle.commands.specs.declared.drops.ListFault.{ListFault}
use Rattle.commands.specs.declared.drops.ListFault.TheVariants.{BadList, OutOfMemory}

-- What stands between the commas of a text. Where a comma begins or ends it, or follows another, a piece is empty.
abbrev pub pieces_of : List ℕ → List (List ℕ)
pieces_of [] = [] ∷ []
pieces_of (c ∷ more) = if c == 44 then [] ∷ pieces_of more else before_first_word c (pieces_of more)

-- the pieces of what is left of a text
abbrev pub pieces_left : Option (Bor (List ℕ)) → List (List ℕ)
pieces_left None = []
pieces_left (Some rest) = pieces_of rest.now

-- the number that a word writes as a decimal, if it is at least `least` and below `bound`
abbrev pub decimal_from : (least bound : ℕ) → List ℕ → Option ℕ
decimal_from least bound word = do
  number ← decimal_between least bound word
  if nat_lt number bound then Some number else None

-- the numbers that words write as decimals, rising from `least` on and below `bound`
abbrev pub rising_from : (least bound : ℕ) → List (List ℕ) → Option (List ℕ)
rising_from least bound [] = Some []
rising_from least bound (word ∷ words) = do
  number ← decimal_from least bound word
  more ← rising_from (number + 1) bound words
  Some (number ∷ more)

-- the numbers that a text lists, of so many packets: `none`, or rising decimals joined by commas
abbrev pub drops_of : (text : List ℕ) → (packets : ℕ) → Option (List ℕ)
drops_of text packets = if bytes_eq text (codes "none") then Some [] else rising_from 0 packets (pieces_of text)

-- A bad list is told exactly where the text lists nothing.
abbrev pub IsRefused : (drops : Option (List ℕ)) → ListFault → Type 0
IsRefused drops BadList = drops ≡ None
IsRefused drops OutOfMemory = IsSome drops

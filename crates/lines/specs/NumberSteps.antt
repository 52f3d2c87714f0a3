-- What the parts of the reader of numbers say of the words that are left, and of the numbers so far.
use Rattle.std.specs.Prelude.{◌≡◌, ℕ, ◌≤◌, List, [], ◌∷◌, Option, Some, None, ⊤}
use Rattle.std.specs.Borrow.{Bor}
use Rattle.lines.specs.Words.{words_left}
use Rattle.lines.specs.Decimal.{decimal_between}
use Rattle.lines.specs.Numbers.{numbers_first}

-- The next word was this number, and the others are left; or none was.
abbrev pub TakesNumber : Option (Bor (List ℕ)) → Option (Bor (List ℕ)) → (least most : ℕ) → Option ℕ → Type 0
TakesNumber old new least most (Some number) =
    (word : List ℕ) × (words_left old ≡ word ∷ words_left new) × (decimal_between least most word ≡ Some number)
TakesNumber old new least most None = (others : List (ℕ × ℕ)) → numbers_first ((least, most) ∷ others) (words_left old) ≡ None

-- each number is between its bounds
abbrev pub AreWithin : List (ℕ × ℕ) → List ℕ → Type 0
AreWithin [] [] = ⊤
AreWithin (bounds ∷ others) (number ∷ numbers) = (bounds.0 ≤ number) × (number ≤ bounds.1) × AreWithin others numbers
AreWithin _ _ = ⊥

-- The numbers of the items of a list, in whatever order they are kept.
use Rattle.std.specs.Prelude.{◌≡◌, ℕ, ◌+◌, ◌==◌, List, [], ◌∷◌, length, if◌then◌else◌, nat_lt}

-- how often a number is among others
unfoldable pub times : ℕ → List ℕ → ℕ
times n [] = 0
times n (m ∷ numbers) = (if m == n then 1 else 0) + times n numbers

-- These are the numbers of so many items: those below the count, each once.
pub record AreNumbers (numbers : List ℕ) (count : ℕ) : Type 0 where
  pub once : (n : ℕ) → times n numbers ≡ (if nat_lt n count then 1 else 0)
  pub all : length numbers ≡ count

-- The places for clients, each taken until a moment, or free.
use Rattle.std.specs.Prelude.{◌≡◌, ℕ, ◌+◌, ◌<◌, ◌≤◌, List, [], ◌∷◌, length, Bool, false, nat_le, Option, Some, None, get_or, min}
use Rattle.timing.specs.Capped.{capped}

-- a free place comes before all that are taken, and of these the one that ends first
abbrev pub rank : Option ℕ → ℕ
rank None = 0
rank (Some until) = until + 1

abbrev pub IsLeast : (at : ℕ) → List (Option ℕ) → Type 0
IsLeast at until = (k : ℕ) → k < length until → rank (get_or until at None) ≤ rank (get_or until k None)

abbrev pub sooner : (one other : Option ℕ) → Option ℕ
sooner None other = other
sooner (Some one) None = Some one
sooner (Some one) (Some other) = Some (min one other)

-- it ends with the first of those that are taken
abbrev pub first_end : List (Option ℕ) → Option ℕ
first_end [] = None
first_end (until ∷ more) = sooner until (first_end more)

-- a client has five seconds
abbrev pub end_of : (now : ℕ) → ℕ
end_of now = capped (now + 5000)

abbrev pub is_over : Option ℕ → (now : ℕ) → Bool
is_over None now = false
is_over (Some until) now = nat_le until now

-- of those before one the best is known
abbrev pub IsBestOf : Option ℕ → (count : ℕ) → List (Option ℕ) → Type 0
IsBestOf None count until = count ≡ 0
IsBestOf (Some at) count until = (at < length until) × ((k : ℕ) → k < count → rank (get_or until at None) ≤ rank (get_or until k None))

-- The order of checks, said of the checks themselves. (Each reader's and each end's own definition has its order in
-- the way that it is written; this one says it a second time, so that neither can be wrong alone.)
use Rattle.std.specs.Prelude.{◌≡◌, ◌⊎◌, ℕ, List, [], ◌∷◌, Option, Some, None}

-- The checks, each with the number of its refusal and the condition that is refused: the answer is the number of the
-- first whose condition holds, and None where none holds.
abbrev pub FirstOf : List (ℕ × Type 0) → Option ℕ → Type 0
FirstOf [] answer = answer ≡ None
FirstOf (check ∷ later) answer = (check.1 × (answer ≡ Some check.0)) ⊎ ((check.1 → ⊥) × FirstOf later answer)

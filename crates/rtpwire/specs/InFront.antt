-- Checks of which some come in front: what they answer is the answer, and else that of the later ones. These are lemmas,
-- for the proofs of the readers and of both ends.
use Rattle.std.specs.Prelude.{ℕ, List, [], ◌∷◌, ◌++◌, Option, Some, None}
use Rattle.std.proofs.Common.{sym, inl, inr}
use Rattle.std.proofs.lemmas.Option.{none-some}
use Rattle.rtpwire.specs.FirstOf.{FirstOf}

-- one in front decides
pub found_in_front : (front later : List (ℕ × Type 0)) (n : ℕ) → FirstOf front (Some n) → FirstOf (front ++ later) (Some n)
found_in_front [] later n none = absurd (none-some n (sym none))
found_in_front (check ∷ front) later n (inl found) = inl found
found_in_front (check ∷ front) later n (inr (passed, more)) = inr (passed, found_in_front front later n more)

-- none does
pub none_in_front : (front later : List (ℕ × Type 0)) (answer : Option ℕ) → FirstOf front None → FirstOf later answer → FirstOf (front ++ later) answer
none_in_front [] later answer none first = first
none_in_front (check ∷ front) later answer (inl (holds, found)) first = absurd (none-some check.0 found)
none_in_front (check ∷ front) later answer (inr (passed, more)) first = inr (passed, none_in_front front later answer more first)

-- Counts that rise by what an event says.
use Rattle.std.proofs.Common.{◌≡◌, ℕ, ◌+◌, List, ◌∷◌, refl, arith}
use Rattle.std.specs.List.{sum_by}
use Rattle.std.proofs.lemmas.List.Sums.{sum_by-cons}
use Rattle.endpoint.specs.Counts.{count_in_64, more}

pub pair : {A B : Type 0} {a b : A} {c d : B} → a ≡ b → c ≡ d → ◌≡◌ {A = A × B} (a, c) (b, d)
pair p q = cc

counted_once : (count total many sum : ℕ) → count ≡ count_in_64 total → sum ≡ many + total → more count many ≡ count_in_64 sum
counted_once count total many sum = omega arith

-- an event adds to one count what it says
pub adds : {E : Type 0} (f : E → ℕ) (event : E) (before : List E) → more (count_in_64 (sum_by f before)) (f event) ≡ count_in_64 (sum_by f (event ∷ before))
adds f event before = counted_once _ (sum_by f before) (f event) _ refl (sum_by-cons f event before)

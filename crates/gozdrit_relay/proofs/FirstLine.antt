-- What stands before the first line feed.
use Rattle.std.proofs.Common.{◌≡◌, ◌≢◌, ℕ, List, [], ◌∷◌, ◌++◌, Some, None, All, refl, arith}
use Rattle.std.proofs.lemmas.List.Elements.{recursion_from_All}
use Rattle.std.specs.List.{AllByRecursion}
use Rattle.gozdrit_relay.specs.Asking.{first_line}

ends_it : (line rest : List ℕ) → AllByRecursion (λ x. x ≢ 10) line → first_line (line ++ 10 ∷ rest) ≡ Some line
ends_it [] rest h = refl
ends_it (c ∷ line) rest h = grind (arith, h.0, ends_it line rest h.1)

has_none : (line : List ℕ) → AllByRecursion (λ x. x ≢ 10) line → first_line line ≡ None
has_none [] h = refl
has_none (c ∷ line) h = grind (arith, h.0, has_none line h.1)

pub first_line_ends : (line rest : List ℕ) → All (λ x. x ≢ 10) line → first_line (line ++ 10 ∷ rest) ≡ Some line
first_line_ends line rest h = ends_it line rest (recursion_from_All (λ x. x ≢ 10) line h)

pub first_line_none : (line : List ℕ) → All (λ x. x ≢ 10) line → first_line line ≡ None
first_line_none line h = has_none line (recursion_from_All (λ x. x ≢ 10) line h)

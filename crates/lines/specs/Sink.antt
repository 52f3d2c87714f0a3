-- What becomes of a text that is pushed to a sink, where it is known what the sink holds.
use Rattle.std.specs.Prelude.{◌≡◌, ℕ, List, ◌++◌, Option, Result, MatchResult}
use Rattle.std.specs.Io.KnownBytes.{Appends}

-- A beginning of the text was appended.
pub record AppendsFront (old new : Option (List ℕ)) (text : List ℕ) : Type 0 where
  pub front : List ℕ
  pub rest : List ℕ
  pub parts : text ≡ front ++ rest
  pub appended : Appends old new front

-- The text was appended, or where that failed, a beginning of it.
abbrev pub Pushes : {U F : Type 0} → Result U F → (old new : Option (List ℕ)) → (text : List ℕ) → Type 0
Pushes result old new text = MatchResult result (λ _. Appends old new text) (λ _. AppendsFront old new text)

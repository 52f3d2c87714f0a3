-- What a space, or its absence, tells of the words of a line.
use Rattle.std.proofs.Common.{◌≡◌, ◌≢◌, ℕ, List, [], ◌∷◌, ◌++◌, refl, ap, ◌∙◌, nat_eq, true, false, if◌then◌else◌}
use Rattle.std.specs.List.{All, AllByRecursion}
use Rattle.std.proofs.lemmas.Bool.{ne_eqb}
use Rattle.std.proofs.lemmas.List.Elements.{recursion_from_All}
use Rattle.lines.specs.Words.{words_of, before_first_word}

-- no octet is a space
abbrev LacksSpace : List ℕ → Type 0
LacksSpace line = AllByRecursion (λ x. x ≢ 32) line

cut_in_turn : (front more : List ℕ) → LacksSpace front → words_of (front ++ 32 ∷ more) ≡ front ∷ words_of more
cut_in_turn [] more h = refl
cut_in_turn (c ∷ cs) more h = rw (ne_eqb c 32 h.0, cut_in_turn cs more h.1) refl

one_in_turn : (line : List ℕ) → LacksSpace line → words_of line ≡ line ∷ []
one_in_turn [] h = refl
one_in_turn (c ∷ cs) h = rw (ne_eqb c 32 h.0, one_in_turn cs h.1) refl

-- a line with a space: its first word, and the words after the space
pub words_of-cut : (line front more : List ℕ) → line ≡ front ++ 32 ∷ more → All (λ x. x ≢ 32) front → words_of line ≡ front ∷ words_of more
words_of-cut line front more e h = ap words_of e ∙ cut_in_turn front more (recursion_from_All (λ x. x ≢ 32) front h)

-- a line without a space is one word
pub words_of-one : (line : List ℕ) → All (λ x. x ≢ 32) line → words_of line ≡ line ∷ []
words_of-one line h = one_in_turn line (recursion_from_All (λ x. x ≢ 32) line h)

-- a line has a word, be it empty
pub words_of-cons : (line : List ℕ) → (word : List ℕ) × (words : List (List ℕ)) × (words_of line ≡ word ∷ words)
words_of-cons [] = ([], [], refl)
words_of-cons (c ∷ cs) =
    let rest = words_of-cons cs in
    elim (nat_eq c 32) as (λ b. (word : List ℕ) × (words : List (List ℕ)) × ((if b then [] ∷ words_of cs else before_first_word c (words_of cs)) ≡ word ∷ words)) [
      | true ↦ ([], words_of cs, refl)
      | false ↦ (c ∷ rest.0, rest.1, rw rest.2 refl)
    ]

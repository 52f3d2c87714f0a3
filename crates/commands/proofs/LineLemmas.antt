-- The lines of a text that begins with a whole line, or with none.
use Rattle.std.proofs.Common.{◌≡◌, ◌≢◌, ℕ, List, [], ◌∷◌, ◌++◌, refl, ap, ◌∙◌, nat_eq, true, false, ◌||◌}
use Rattle.std.specs.List.{list_any, AllByRecursion}
use Rattle.std.proofs.lemmas.Bool.{ne_eqb}
use Rattle.std.proofs.lemmas.List.Elements.{recursion_from_All}
use Rattle.commands.specs.Lines.{lines_of, tail_of}
use Rattle.commands.specs.IsScript.{LacksFeed}

-- no octet is a line feed, said by recursion
abbrev pub LacksFeedInTurn : List ℕ → Type 0
LacksFeedInTurn text = AllByRecursion (λ x. x ≢ 10) text

lines_of-cut_rec : (front more : List ℕ) → LacksFeedInTurn front → lines_of (front ++ 10 ∷ more) ≡ front ∷ lines_of more
lines_of-cut_rec [] more h = refl
lines_of-cut_rec (c ∷ cs) more h = rw (ne_eqb c 10 h.0, lines_of-cut_rec cs more h.1) refl

-- a text that begins with a whole line
pub lines_of-cut : (text front more : List ℕ) → text ≡ front ++ 10 ∷ more → LacksFeed front → lines_of text ≡ front ∷ lines_of more
lines_of-cut text front more e h = ap lines_of e ∙ lines_of-cut_rec front more (recursion_from_All (λ x. x ≢ 10) front h)

lines_of-none_rec : (rest : List ℕ) → LacksFeedInTurn rest → lines_of rest ≡ []
lines_of-none_rec [] h = refl
lines_of-none_rec (c ∷ cs) h = rw (ne_eqb c 10 h.0, lines_of-none_rec cs h.1) refl

-- a text without a line feed has no whole line
pub lines_of-none : (rest : List ℕ) → LacksFeed rest → lines_of rest ≡ []
lines_of-none rest h = lines_of-none_rec rest (recursion_from_All (λ x. x ≢ 10) rest h)

has_feed : (front more : List ℕ) → list_any (λ x. nat_eq x 10) (front ++ 10 ∷ more) ≡ true
has_feed [] more = refl
has_feed (c ∷ cs) more = elim (nat_eq c 10) as (λ b. (b || list_any (λ x. nat_eq x 10) (cs ++ 10 ∷ more)) ≡ true) [ true ↦ refl | false ↦ has_feed cs more ]

no_feed : (rest : List ℕ) → LacksFeedInTurn rest → list_any (λ x. nat_eq x 10) rest ≡ false
no_feed [] h = refl
no_feed (c ∷ cs) h = rw (ne_eqb c 10 h.0, no_feed cs h.1) refl

tail_of-cut_rec : (front more : List ℕ) → tail_of (front ++ 10 ∷ more) ≡ tail_of more
tail_of-cut_rec [] more = refl
tail_of-cut_rec (c ∷ cs) more = rw (has_feed (c ∷ cs) more) (tail_of-cut_rec cs more)

pub tail_of-cut : (text front more : List ℕ) → text ≡ front ++ 10 ∷ more → tail_of text ≡ tail_of more
tail_of-cut text front more e = ap tail_of e ∙ tail_of-cut_rec front more

tail_of-none_rec : (rest : List ℕ) → LacksFeedInTurn rest → tail_of rest ≡ rest
tail_of-none_rec [] h = refl
tail_of-none_rec (c ∷ cs) h = rw (no_feed (c ∷ cs) h) refl

pub tail_of-none : (rest : List ℕ) → LacksFeed rest → tail_of rest ≡ rest
tail_of-none rest h = tail_of-none_rec rest (recursion_from_All (λ x. x ≢ 10) rest h)

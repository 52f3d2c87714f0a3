-- The numbers that NACKs name, as a set and as a list.
use Rattle.std.proofs.Common.{◌≡◌, ◌↔◌, ℕ, zero, suc, ◌⊎◌, ◌==◌, ◌||◌, Bool, true, false, List, [], ◌∷◌, refl, sym, ◌∙◌, arith, eq-eqb, inl, inr}
use Rattle.std.specs.List.{Contains}
use Rattle.std.proofs.lemmas.Bool.{eqb-true}
use Rattle.std.proofs.lemmas.List.Folds.{list_any-append}
use Rattle.places.specs.Among.{is_among}
use Rattle.fbwire.specs.declared.nack.Pair.{Pair}
use Rattle.fbwire.specs.Nack.{Nack, Names, numbers_of}
use Rattle.fbwire.specs.Compound.{NacksName}
use Rattle.sender.specs.Marking.{all_numbers}

pub or_left : (a b : Bool) → a ≡ true → (a || b) ≡ true
or_left true b e = refl
or_left false b e = absurd (cc)

pub or_right : (a b : Bool) → b ≡ true → (a || b) ≡ true
or_right true b e = refl
or_right false b e = e

pub or_cases : (a b : Bool) → (a || b) ≡ true → (a ≡ true) ⊎ (b ≡ true)
or_cases true b e = inl refl
or_cases false b e = inr e

among_contained : (xs : List ℕ) (n : ℕ) → Contains xs n → is_among xs n ≡ true
among_contained [] n (k, within, is) = absurd (omega arith)
among_contained (x ∷ xs) n (zero, within, is) = or_left _ _ (eq-eqb x n is)
among_contained (x ∷ xs) n (suc k, within, is) = or_right _ _ (among_contained xs n (k, omega arith, is))

pub contained_among : (xs : List ℕ) (n : ℕ) → is_among xs n ≡ true → Contains xs n
contained_among [] n among = absurd (cc)
contained_among (x ∷ xs) n among = elim (or_cases (x == n) (is_among xs n) among) [
  | inl here ↦ (zero, omega arith, eqb-true _ _ here)
  | inr rest ↦ let c = contained_among xs n rest in (suc c.0, omega (arith, c.1), c.2)
]

module _ (names : (pairs : List Pair) (n : ℕ) → Names pairs n ↔ Contains (numbers_of pairs) n) where
  to_list : (nacks : List Nack) (n : ℕ) → NacksName nacks n → is_among (all_numbers nacks) n ≡ true
  to_list [] n named = absurd named
  to_list (nack ∷ nacks) n (inl here) =
      list_any-append (λ m. m == n) (numbers_of nack.pairs) (all_numbers nacks) ∙ or_left _ _ (among_contained _ n ((names nack.pairs n).0 here))
  to_list (nack ∷ nacks) n (inr there) =
      list_any-append (λ m. m == n) (numbers_of nack.pairs) (all_numbers nacks) ∙ or_right _ _ (to_list nacks n there)

  from_list : (nacks : List Nack) (n : ℕ) → is_among (all_numbers nacks) n ≡ true → NacksName nacks n
  from_list [] n among = absurd (cc)
  from_list (nack ∷ nacks) n among =
      elim (or_cases _ _ (sym (list_any-append (λ m. m == n) (numbers_of nack.pairs) (all_numbers nacks)) ∙ among)) [
        | inl here ↦ inl ((names nack.pairs n).1 (contained_among _ n here))
        | inr there ↦ inr (from_list nacks n there)
      ]

  pub named_among : (nacks : List Nack) (n : ℕ) → NacksName nacks n ↔ (is_among (all_numbers nacks) n ≡ true)
  named_among nacks n = (to_list nacks n, from_list nacks n)

-- the set of one number
pub named_alone : (x last : ℕ) → x ≡ last → (n : ℕ) → (n ≡ last) ↔ (is_among (x ∷ []) n ≡ true)
named_alone x last same n = (
  λ is. or_left (x == n) false (eq-eqb x n (same ∙ sym is)),
  λ among. elim (or_cases (x == n) false among) [ inl e ↦ sym (eqb-true _ _ e) ∙ same | inr never ↦ absurd (let no : false ≡ true = never in cc) ],
)

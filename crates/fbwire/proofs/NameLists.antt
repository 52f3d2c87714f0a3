-- The numbers that pairs name, as a set and as a list.
use Rattle.std.proofs.Common.{◌≡◌, ◌↔◌, ℕ, zero, suc, ◌+◌, ◌%◌, ◌<◌, ◌≤◌, ◌⊎◌, Bool, true, List, [], ◌∷◌, ◌++◌, map, filter, refl, ap, subst, sym, ◌∙◌, arith, inl, inr}
use Rattle.std.specs.List.{Contains}
use Rattle.std.proofs.lemmas.Bool.{cases_eq, cases_Bool, cond_both}
use Rattle.fbwire.specs.declared.nack.Pair.{Pair}
use Rattle.fbwire.specs.Compound.{NacksName}
use Rattle.fbwire.specs.Nack.{Nack, has_bit, up_from, mask_bits, masked_numbers, pair_numbers, numbers_of, PairNames, Names}

-- x is one of the list's members
abbrev pub IsAmong : {X : Type 0} → List X → X → Type 0
IsAmong [] x = ⊥
IsAmong (y ∷ ys) x = (x ≡ y) ⊎ IsAmong ys x

pub IsAmong-from_contains : {X : Type 0} (xs : List X) (x : X) → Contains xs x → IsAmong xs x
IsAmong-from_contains [] x (k, within, is) = absurd (omega arith)
IsAmong-from_contains (y ∷ ys) x (zero, within, is) = inl (sym is)
IsAmong-from_contains (y ∷ ys) x (suc k, within, is) = inr (IsAmong-from_contains ys x (k, omega arith, is))

pub Contains-from_among : {X : Type 0} (xs : List X) (x : X) → IsAmong xs x → Contains xs x
Contains-from_among [] x among = absurd among
Contains-from_among (y ∷ ys) x (inl e) = (zero, omega arith, sym e)
Contains-from_among (y ∷ ys) x (inr among) = let c = Contains-from_among ys x among in (suc c.0, omega (arith, c.1), c.2)

pub IsAmong-append_left : {X : Type 0} (xs ys : List X) (x : X) → IsAmong xs x → IsAmong (xs ++ ys) x
IsAmong-append_left [] ys x among = absurd among
IsAmong-append_left (y ∷ xs) ys x (inl e) = inl e
IsAmong-append_left (y ∷ xs) ys x (inr among) = inr (IsAmong-append_left xs ys x among)

pub IsAmong-append_right : {X : Type 0} (xs ys : List X) (x : X) → IsAmong ys x → IsAmong (xs ++ ys) x
IsAmong-append_right [] ys x among = among
IsAmong-append_right (y ∷ xs) ys x among = inr (IsAmong-append_right xs ys x among)

pub IsAmong-append : {X : Type 0} (xs ys : List X) (x : X) → IsAmong (xs ++ ys) x → IsAmong xs x ⊎ IsAmong ys x
IsAmong-append [] ys x among = inr among
IsAmong-append (y ∷ xs) ys x (inl e) = inl (inl e)
IsAmong-append (y ∷ xs) ys x (inr among) = elim (IsAmong-append xs ys x among) [ inl left ↦ inl (inr left) | inr right ↦ inr right ]

pub IsAmong-map : {X Y : Type 0} (f : X → Y) (xs : List X) (x : X) → IsAmong xs x → IsAmong (map f xs) (f x)
IsAmong-map f [] x among = absurd among
IsAmong-map f (y ∷ xs) x (inl e) = inl (ap f e)
IsAmong-map f (y ∷ xs) x (inr among) = inr (IsAmong-map f xs x among)

pub IsAmong-from_map : {X Y : Type 0} (f : X → Y) (xs : List X) (y : Y) → IsAmong (map f xs) y → (x : X) × IsAmong xs x × (y ≡ f x)
IsAmong-from_map f [] y among = absurd among
IsAmong-from_map f (x ∷ xs) y (inl e) = (x, inl refl, e)
IsAmong-from_map f (x ∷ xs) y (inr among) = let r = IsAmong-from_map f xs y among in (r.0, inr r.1, r.2)

-- what a filter of such a list keeps
kept : (f : ℕ → Bool) (first count i : ℕ) → first ≤ i → i < first + count → f i ≡ true → IsAmong (filter f (up_from first count)) i
kept f first zero i low high is = absurd (omega arith)
kept f first (suc count) i low high is = elim (cases_eq first i) [
  | inl e ↦ let here : f first ≡ true = ap f e ∙ is in rw here (inl (sym e))
  | inr ne ↦
      let rest = kept f (suc first) count i (omega arith) (omega arith) is in
      cond_both (f first) _ _ (λ xs. IsAmong xs i) (λ _. inr rest) (λ _. rest)
]

kept_only : (f : ℕ → Bool) (first count i : ℕ) → IsAmong (filter f (up_from first count)) i → (first ≤ i) × (i < first + count) × (f i ≡ true)
kept_only f first zero i among = absurd among
kept_only f first (suc count) i among =
    let later : IsAmong (filter f (up_from (suc first) count)) i → (first ≤ i) × (i < first + suc count) × (f i ≡ true) =
    λ rest. let r = kept_only f (suc first) count i rest in let low = r.0 in let high = r.1 in (omega arith, omega arith, r.2) in
    elim (cases_Bool (f first)) [
      | inl is ↦ elim (rw is at among) [ inl e ↦ (omega arith, omega arith, ap f e ∙ is) | inr rest ↦ later rest ]
      | inr is ↦ later (rw is at among)
    ]

pair_names_among : (p : Pair) (n : ℕ) → PairNames p n → IsAmong (pair_numbers p) n
unfolding mask_bits
pair_names_among p n (inl e) = inl e
pair_names_among p n (inr (i, (low, high, is), e)) =
    let bit = kept (has_bit p.blp) 1 16 i low (omega arith) is in
    inr (subst (IsAmong (masked_numbers p.pid p.blp)) (sym e) (IsAmong-map (λ k. (p.pid + k) % 65536) (filter (has_bit p.blp) (up_from 1 16)) i bit))

among_pair_names : (p : Pair) (n : ℕ) → IsAmong (pair_numbers p) n → PairNames p n
unfolding mask_bits
among_pair_names p n (inl e) = inl e
among_pair_names p n (inr among) =
    let named = IsAmong-from_map (λ k. (p.pid + k) % 65536) (filter (has_bit p.blp) (up_from 1 16)) n among in
    let bit = kept_only (has_bit p.blp) 1 16 named.0 named.1 in
    let high = bit.1 in
    inr (named.0, (bit.0, omega arith, bit.2), named.2)

names_among : (pairs : List Pair) (n : ℕ) → Names pairs n → IsAmong (numbers_of pairs) n
names_among [] n names = absurd names
names_among (p ∷ pairs) n (inl here) = IsAmong-append_left (pair_numbers p) (numbers_of pairs) n (pair_names_among p n here)
names_among (p ∷ pairs) n (inr rest) = IsAmong-append_right (pair_numbers p) (numbers_of pairs) n (names_among pairs n rest)

among_names : (pairs : List Pair) (n : ℕ) → IsAmong (numbers_of pairs) n → Names pairs n
among_names [] n among = absurd among
among_names (p ∷ pairs) n among =
    elim (IsAmong-append (pair_numbers p) (numbers_of pairs) n among) [
      | inl here ↦ inl (among_pair_names p n here)
      | inr rest ↦ inr (among_names pairs n rest)
    ]

pub names_contains : (pairs : List Pair) (n : ℕ) → Names pairs n ↔ Contains (numbers_of pairs) n
names_contains pairs n = (
  λ names. Contains-from_among (numbers_of pairs) n (names_among pairs n names),
  λ contains. among_names pairs n (IsAmong-from_contains (numbers_of pairs) n contains),
)

-- The numbers that a list of NACKs names.

pub list_names : (nacks : List Nack) (n : ℕ) → NacksName nacks n ↔ ((nack : Nack) × Contains nacks nack × Names nack.pairs n)
list_names nacks n = (
  λ named. let r = from_list nacks named in (r.0, Contains-from_among nacks r.0 r.1, r.2),
  λ (nack, among, named). to_list nacks nack (IsAmong-from_contains nacks nack among) named,
)
  where
    from_list : (nacks : List Nack) → NacksName nacks n → (nack : Nack) × IsAmong nacks nack × Names nack.pairs n
    from_list [] named = absurd named
    from_list (nack ∷ nacks) (inl here) = (nack, inl refl, here)
    from_list (nack ∷ nacks) (inr there) = let r = from_list nacks there in (r.0, inr r.1, r.2)

    to_list : (nacks : List Nack) (nack : Nack) → IsAmong nacks nack → Names nack.pairs n → NacksName nacks n
    to_list [] nack among named = absurd among
    to_list (m ∷ nacks) nack (inl e) named = inl (subst (λ (x : Nack). Names x.pairs n) e named)
    to_list (m ∷ nacks) nack (inr among) named = inr (to_list nacks nack among named)

-- a list of NACKs names a number, or it does not

is_or_not : (xs : List ℕ) (x : ℕ) → IsAmong xs x ⊎ (IsAmong xs x → ⊥)
is_or_not [] x = inr (λ among. among)
is_or_not (y ∷ ys) x = elim (cases_eq x y) [
  | inl e ↦ inl (inl e)
  | inr other ↦ elim (is_or_not ys x) [
    | inl rest ↦ inl (inr rest)
    | inr none ↦ inr (λ among. elim among [ inl e ↦ other e | inr rest ↦ none rest ])
  ]
]

pub names_or_not : (nacks : List Nack) (n : ℕ) → NacksName nacks n ⊎ (NacksName nacks n → ⊥)
names_or_not [] n = inr (λ named. named)
names_or_not (nack ∷ nacks) n = elim (is_or_not (numbers_of nack.pairs) n) [
  | inl here ↦ inl (inl (among_names nack.pairs n here))
  | inr not_here ↦ elim (names_or_not nacks n) [
    | inl there ↦ inl (inr there)
    | inr not_there ↦ inr (λ named. elim named [ inl names ↦ not_here (names_among nack.pairs n names) | inr rest ↦ not_there rest ])
  ]
]

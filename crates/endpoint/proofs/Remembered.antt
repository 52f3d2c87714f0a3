-- The ring remembers the last place of each cell that was named.
use Rattle.std.proofs.Common.{◌≡◌, ℕ, ◌%◌, ◌<◌, ◌==◌, ◌||◌, cond, Bool, true, false, List, [], ◌∷◌, length, Option, Some, None, refl, sym, ap, subst, ◌∙◌, inl, inr, length-set, eq-eqb}
use Rattle.std.specs.Prelude.{slice_set}
use Rattle.std.proofs.lemmas.List.{get_or-set_same, get_or-set_other, get_or-replicate, length-replicate}
use Rattle.std.proofs.lemmas.Nat.{mod_below}
use Rattle.std.proofs.lemmas.Bool.{cases_eq, cases_Bool, eqb-true, ne_eqb}
use Rattle.places.specs.Among.{is_among}
use Rattle.endpoint.specs.Asked.{cell_at, is_place, none_asked, remembers, with_place, with_places}
use Rattle.endpoint.specs.AskingRuns.{first_with, in_turn}

-- the cells of a ring of so many have what these places left, the newest first
pub record Has (count : ℕ) (cells : List (Option ℕ)) (places : List ℕ) : Type 0 where
  pub long : length cells ≡ count
  pub each : (rest : ℕ) → rest < count → cell_at cells rest ≡ first_with count rest places

module _ (count : ℕ) (some : 0 < count) where
  one_more : (cells : List (Option ℕ)) (places : List ℕ) → Has count cells places → (q : ℕ) → Has count (with_place cells q) (q ∷ places)
  one_more cells places has q =
      let long = has.long in
      record {
        long = length-set cells (q % length cells) (Some q) ∙ long;
        each = λ rest below. elim (cases_eq (q % count) rest) [
          | inl same ↦
              get_or-set_at cells (q % length cells) rest (Some q) (ap (λ n. q % n) long ∙ same) (subst (λ (n : ℕ). rest < n) (sym long) below)
              ∙ sym (ap (λ b. cond b (Some q) (first_with count rest places)) (eq-eqb (q % count) rest same))
          | inr other ↦
              get_or-set_other cells (q % length cells) rest (Some q) None (λ same. other (sym (ap (λ n. q % n) long) ∙ sym same))
              ∙ has.each rest below
              ∙ sym (ap (λ b. cond b (Some q) (first_with count rest places)) (ne_eqb (q % count) rest other))
        ];
      }
    where
      get_or-set_at : (xs : List (Option ℕ)) (i j : ℕ) (y : Option ℕ) → i ≡ j → j < length xs → cell_at (slice_set xs i y) j ≡ y
      get_or-set_at xs i j y same below = subst (λ (k : ℕ). cell_at (slice_set xs k y) j ≡ y) (sym same) (get_or-set_same xs j y None below)

  pub all_more : (cells : List (Option ℕ)) (places : List ℕ) → Has count cells places → (new : List ℕ) → Has count (with_places cells new) (in_turn new places)
  all_more cells places has [] = has
  all_more cells places has (q ∷ new) = all_more (with_place cells q) (q ∷ places) (one_more cells places has q) new

  pub nothing : Has count (none_asked count) []
  nothing = record { long = length-replicate count None; each = λ rest below. get_or-replicate count rest None None below }

  pub known : (cells : List (Option ℕ)) (places : List ℕ) → Has count cells places → (q : ℕ) → remembers cells q ≡ is_place (first_with count (q % count) places) q
  known cells places has q =
      let long = has.long in
      ap (λ n. is_place (cell_at cells (q % n)) q) long ∙ ap (λ o. is_place o q) (has.each (q % count) (mod_below q count some))

-- what is not among the places is not the first of them with its cell
pub never_first : (count rest : ℕ) (places : List ℕ) (q : ℕ) → is_among places q ≡ false → is_place (first_with count rest places) q ≡ false
never_first count rest [] q not = refl
never_first count rest (p ∷ places) q not = elim (cases_Bool (p == q)) [
  | inl same ↦ absurd (clash (p == q) (is_among places q) same not)
  | inr other ↦ elim (cases_Bool (p % count == rest)) [
    | inl here ↦ ap (λ b. is_place (cond b (Some p) (first_with count rest places)) q) here ∙ other
    | inr there ↦ ap (λ b. is_place (cond b (Some p) (first_with count rest places)) q) there ∙ never_first count rest places q (rest_not (p == q) (is_among places q) other not)
  ]
]
  where
    clash : (a b : Bool) → a ≡ true → (a || b) ≡ false → ⊥
    clash true b is not = absurd cc
    clash false b is not = absurd cc

    rest_not : (a b : Bool) → a ≡ false → (a || b) ≡ false → b ≡ false
    rest_not false b is not = not
    rest_not true b is not = absurd cc

pub is_first : (q : ℕ) → is_place (Some q) q ≡ true
is_first q = eq-eqb q q refl

later : (a b : Bool) → b ≡ true → (a || b) ≡ true
later true b is = refl
later false b is = is

rest_among : (a b : Bool) → a ≡ false → (a || b) ≡ true → b ≡ true
rest_among false b is among = among
rest_among true b is among = absurd cc

first_among : (p : ℕ) (places : List ℕ) → is_among (p ∷ places) p ≡ true
first_among p places = ap (λ b. b || is_among places p) (eq-eqb p p refl)

-- the newest place of a cell, among those that come in turn
module _ (count : ℕ) (q : ℕ) where
  still_first : (places before : List ℕ) → ((r : ℕ) → is_among places r ≡ true → r % count ≡ q % count → r ≡ q) → first_with count (q % count) before ≡ Some q
      → first_with count (q % count) (in_turn places before) ≡ Some q
  still_first [] before alone first = first
  still_first (p ∷ places) before alone first =
      still_first places (p ∷ before) (λ r among. alone r (later (p == r) (is_among places r) among))
      (elim (cases_Bool (p % count == q % count)) [
        | inl here ↦
            ap (λ b. cond b (Some p) (first_with count (q % count) before)) here
            ∙ ap Some (alone p (first_among p places) (eqb-true (p % count) (q % count) here))
        | inr there ↦ ap (λ b. cond b (Some p) (first_with count (q % count) before)) there ∙ first
      ])

  pub newest : (places before : List ℕ) → is_among places q ≡ true → ((r : ℕ) → is_among places r ≡ true → r % count ≡ q % count → r ≡ q)
      → first_with count (q % count) (in_turn places before) ≡ Some q
  newest [] before among alone = absurd cc
  newest (p ∷ places) before among alone = elim (cases_Bool (p == q)) [
    | inl same ↦
        let here : p ≡ q = eqb-true p q same in
        still_first places (p ∷ before) (λ r among'. alone r (later (p == r) (is_among places r) among'))
        (ap (λ b. cond b (Some p) (first_with count (q % count) before)) (eq-eqb (p % count) (q % count) (ap (λ n. n % count) here)) ∙ ap Some here)
    | inr other ↦
        newest places (p ∷ before) (rest_among (p == q) (is_among places q) other among) (λ r among'. alone r (later (p == r) (is_among places r) among'))
  ]

-- Places determine the datagrams that ask for all of them.
use Rattle.std.proofs.Common.{◌≡◌, ℕ, List, [], ◌∷◌, drop, refl, ap, sym, ◌∙◌, subst, arith}
use Rattle.std.specs.List.{Contains}
use Rattle.std.specs.List.Sorted.{IsStrictlyIncreasing}
use Rattle.fbwire.specs.declared.nack.Pair.{Pair}
use Rattle.fbwire.specs.Nack.{Nack, NackSpells}
use Rattle.fbwire.specs.Packing.{IsNarrow, IsPacking, first_numbers}
use Rattle.lines.specs.PackText.{AsksFirst, AskInTurn, script_nack}
use Rattle.lines.proofs.PackLemmas.{rising_left, narrow_left}

-- no datagram asks for no place
never_asks : (datagram others : List ℕ) → AsksFirst [] datagram others → ⊥
never_asks datagram others asks =
    let zero : asks.covered ≡ 0 = let within = asks.packing.within in omega arith in
    let empty : first_numbers asks.covered [] ≡ [] = ap (λ count. first_numbers count []) zero in
    let nothing : (n : ℕ) → Contains (first_numbers asks.covered []) n → ⊥ = λ n there.
    let (k, within, is) = subst (λ numbers. Contains numbers n) empty there in omega (arith, within) in
    let none = asks.packing.fewest.fewest [] (λ n. (λ names. absurd names, λ there. absurd (nothing n there))) in
    let some = asks.spelled.nack.some in
    omega arith

module _ (one_spelling : (nack : Nack) (a b : List ℕ) → NackSpells nack a → NackSpells nack b → a ≡ b)
    (one : (places : List ℕ) (a b : List Pair) (m n : ℕ) → IsStrictlyIncreasing places → IsNarrow places → IsPacking places a m → IsPacking places b n → (a ≡ b) × (m ≡ n)) where
  pub one_run : (places : List ℕ) (a b : List (List ℕ)) → IsStrictlyIncreasing places → IsNarrow places → AskInTurn places a [] → AskInTurn places b [] → a ≡ b
  one_run places [] [] rising narrow x y = refl
  one_run places [] (datagram ∷ b) rising narrow x (others, asks, rest) = absurd (never_asks datagram others (subst (λ p. AsksFirst p datagram others) (sym x) asks))
  one_run places (datagram ∷ a) [] rising narrow (others, asks, rest) y = absurd (never_asks datagram others (subst (λ p. AsksFirst p datagram others) (sym y) asks))
  one_run places (datagram ∷ a) (other ∷ b) rising narrow (others, asks, rest) (left, also, more) =
      let same = one places asks.pairs also.pairs asks.covered also.covered rising narrow asks.packing also.packing in
      let spelled : NackSpells (script_nack asks.pairs) other = subst (λ (p : List Pair). NackSpells (script_nack p) other) (sym same.0) also.spelled in
      let first : datagram ≡ other = one_spelling (script_nack asks.pairs) datagram other asks.spelled spelled in
      let ends : left ≡ others = also.left ∙ ap (λ n. drop n places) (sym same.1) ∙ sym asks.left in
      let rises = subst IsStrictlyIncreasing (sym asks.left) (rising_left places asks.covered rising) in
      let spans = subst IsNarrow (sym asks.left) (narrow_left places asks.covered rising narrow) in
      let run = one_run others a b rises spans rest (subst (λ p. AskInTurn p b []) ends more) in
      ap (λ d. d ∷ a) first ∙ ap (λ l. other ∷ l) run

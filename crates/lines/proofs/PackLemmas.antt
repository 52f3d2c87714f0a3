-- Places that are left, and the lines so far.
use Rattle.std.proofs.Common.{◌≡◌, ℕ, ◌+◌, ◌-◌, ◌<◌, ◌≤◌, zero, suc, List, [], ◌∷◌, ◌++◌, length, drop, get_or, refl, ap, sym, ◌∙◌, subst, arith, inl, inr, append-nil}
use Rattle.std.specs.List.Sorted.{IsStrictlyIncreasing}
use Rattle.std.proofs.lemmas.Bool.{cases_lt}
use Rattle.std.proofs.lemmas.Grind.{flat_map-append}
use Rattle.std.proofs.lemmas.List.{length-drop, get_or-drop}
use Rattle.std.proofs.lemmas.List.Kept.{AllPairs-from_increasing}
use Rattle.std.proofs.Math.ListN.{drop_of_length-le}
use Rattle.fbwire.specs.Packing.{IsNarrow}
use Rattle.lines.specs.PackText.{AsksFirst, AskInTurn, datagram_line, datagram_lines}

rises : (places : List ℕ) → IsStrictlyIncreasing places → (i j : ℕ) → i < j → j < length places → get_or places i 0 < get_or places j 0
rises places rising i j less within = AllPairs-from_increasing places rising i j 0 less within

-- from a place on, places rise
pub rising_left : (places : List ℕ) (n : ℕ) → IsStrictlyIncreasing places → IsStrictlyIncreasing (drop n places)
rising_left places n rising k inside =
    let this = get_or-drop n places k 0 in
    let next = get_or-drop n places (k + 1) 0 in
    let step = rises places rising (n + k) (n + (k + 1)) (omega arith) (omega (arith, length-drop n places)) in
    omega arith

-- none is below the first
first_is_least : (places : List ℕ) → IsStrictlyIncreasing places → (n : ℕ) → n < length places → get_or places 0 0 ≤ get_or places n 0
first_is_least places rising zero within = omega arith
first_is_least places rising (suc n) within = let less = rises places rising 0 (suc n) (omega arith) within in omega arith

-- from a place on, they are as narrow
pub narrow_left : (places : List ℕ) (n : ℕ) → IsStrictlyIncreasing places → IsNarrow places → IsNarrow (drop n places)
narrow_left places n rising narrow =
    elim (cases_lt n (length places)) [
      | inl within ↦
          let long = length-drop n places in
          let last : get_or (drop n places) (length (drop n places) - 1) 0 ≡ get_or places (length places - 1) 0 =
          get_or-drop n places (length (drop n places) - 1) 0 ∙ ap (λ i. get_or places i 0) (omega arith) in
          let first : get_or (drop n places) 0 0 ≡ get_or places n 0 = get_or-drop n places 0 0 ∙ ap (λ i. get_or places i 0) (omega arith) in
          let least = first_is_least places rising n within in
          omega arith
      | inr past ↦ let none : drop n places ≡ [] = drop_of_length-le places (omega arith) in subst IsNarrow (sym none) (omega arith)
    ]

-- one more datagram, at the end
pub one_more_asks : (places : List ℕ) (datagrams : List (List ℕ)) (left datagram others : List ℕ) → AskInTurn places datagrams left
    → AsksFirst left datagram others → AskInTurn places (datagrams ++ datagram ∷ []) others
one_more_asks places [] left datagram others before asks = (others, subst (λ p. AsksFirst p datagram others) before asks, refl)
one_more_asks places (first ∷ datagrams) left datagram others (rest, here, before) asks =
    (rest, here, one_more_asks rest datagrams left datagram others before asks)

pub one_more_line : (datagrams : List (List ℕ)) (datagram : List ℕ) → datagram_lines (datagrams ++ datagram ∷ []) ≡ datagram_lines datagrams ++ datagram_line datagram
one_more_line datagrams datagram =
    flat_map-append datagram_line datagrams (datagram ∷ []) ∙ ap (λ (x : List ℕ). datagram_lines datagrams ++ x) (append-nil (datagram_line datagram))

-- Pairs that were taken one after another name exactly the places that they cover.
use Rattle.std.proofs.Common.{◌≡◌, ℕ, ◌+◌, ◌-◌, ◌<◌, ◌≤◌, List, [], ◌∷◌, ◌++◌, length, take, drop, map, get_or, ap, subst, sym, ◌∙◌, arith, inl, inr}
use Rattle.std.specs.List.{All, Contains}
use Rattle.std.proofs.Math.Seq.{take-add}
use Rattle.std.proofs.lemmas.Bool.{cases_eq}
use Rattle.std.proofs.lemmas.List.{get_or-take, length-drop, length-take, map-append}
use Rattle.std.proofs.lemmas.List.Elements.{All-cons, All-nil, All-take, All-contains, All-weaker, Contains-append_right, Contains-get_or}
use Rattle.places.specs.Place.{number}
use Rattle.fbwire.specs.declared.nack.Pair.{Pair}
use Rattle.fbwire.specs.Nack.{IsPair, PairNames, Names}
use Rattle.fbwire.specs.Packing.{StartApart, first_numbers}
use Rattle.fbwire.specs.PackingSteps.{TakesFirst}
use Rattle.fbwire.proofs.NameLists.{IsAmong, IsAmong-from_contains, Contains-from_among, IsAmong-append_left, IsAmong-append_right, IsAmong-append, IsAmong-map, IsAmong-from_map}

-- pairs, each of which takes its part of the places that the ones before it left
abbrev pub Packs : List ℕ → List Pair → ℕ → Type 0
Packs places [] covered = covered ≡ 0
Packs places (p ∷ pairs) covered =
    (count : ℕ) × (later : ℕ) × TakesFirst places p count × Packs (drop count places) pairs later × (covered ≡ count + later)

-- places from a lowest one on, within the reach of sequence numbers
abbrev pub AreNear : (lowest : ℕ) → List ℕ → Type 0
AreNear lowest places = All (λ q. (lowest ≤ q) × (q < lowest + 8192)) places

-- the first place, among those that the first pair takes
pub first_taken : (places : List ℕ) (p : Pair) (count : ℕ) → TakesFirst places p count → IsAmong (take count places) (get_or places 0 0)
first_taken places p count takes =
    let some = takes.some in let within = takes.within in
    let there : get_or (take count places) 0 0 ≡ get_or places 0 0 = get_or-take count places 0 0 some in
    IsAmong-from_contains (take count places) (get_or places 0 0)
    (subst (Contains (take count places)) there (Contains-get_or (take count places) 0 0 (omega (arith, length-take count places))))

-- where the parts lie
pub covered_parts : (places : List ℕ) (count later covered : ℕ) → covered ≡ count + later → take covered places ≡ take count places ++ take later (drop count places)
covered_parts places count later covered e = ap (λ n. take n places) e ∙ take-add count later places

pub within : (places : List ℕ) (pairs : List Pair) (covered : ℕ) → Packs places pairs covered → covered ≤ length places
within places [] covered none = omega arith
within places (p ∷ pairs) covered (count, later, takes, rest, e) =
    let here = takes.within in let there = within (drop count places) pairs later rest in omega (arith, length-drop count places)

-- the PIDs and masks fit
pub fit : (places : List ℕ) (pairs : List Pair) (covered : ℕ) → Packs places pairs covered → All IsPair pairs
fit places [] covered none = All-nil IsPair
fit places (p ∷ pairs) covered (count, later, takes, rest, e) =
    let start = takes.pid in
    All-cons IsPair p pairs (record { pid = omega arith; blp = takes.blp }) (fit (drop count places) pairs later rest)

-- one pair names exactly the numbers of its part
pair_names_part : (places : List ℕ) (p : Pair) (count n : ℕ) → TakesFirst places p count → PairNames p n → IsAmong (map number (take count places)) n
pair_names_part places p count n takes (inl e) =
    subst (IsAmong (map number (take count places))) (sym (e ∙ takes.pid)) (IsAmong-map number (take count places) (get_or places 0 0) (first_taken places p count takes))
pair_names_part places p count n takes (inr (i, (some, small, set), e)) =
    let there : IsAmong (take count places) (get_or places 0 0 + i) = IsAmong-from_contains (take count places) (get_or places 0 0 + i) ((takes.bits i some small).0 set) in
    let start = takes.pid in
    let same : number (get_or places 0 0 + i) ≡ n = omega arith in
    subst (IsAmong (map number (take count places))) same (IsAmong-map number (take count places) (get_or places 0 0 + i) there)

part_is_named : (places : List ℕ) (p : Pair) (count n : ℕ) → TakesFirst places p count → IsAmong (map number (take count places)) n → PairNames p n
part_is_named places p count n takes among =
    let from = IsAmong-from_map number (take count places) n among in
    let place = from.0 in
    let there = Contains-from_among (take count places) place from.1 in
    let named : n ≡ number place = from.2 in
    let low : get_or places 0 0 ≤ place = All-contains (λ q. get_or places 0 0 ≤ q) (take count places) place takes.low there in
    let high : place ≤ get_or places 0 0 + 16 = All-contains (λ q. q ≤ get_or places 0 0 + 16) (take count places) place takes.high there in
    let start = takes.pid in
    elim (cases_eq place (get_or places 0 0)) [
      | inl e ↦ inl (omega arith)
      | inr ne ↦
          let i = place - get_or places 0 0 in
          let at : place ≡ get_or places 0 0 + i = omega arith in
          let set = (takes.bits i (omega arith) (omega arith)).1 (subst (Contains (take count places)) at there) in
          inr (i, (omega arith, omega arith, set), omega arith)
    ]

-- the pairs name exactly the numbers of the places that they cover
pub names_covered : (places : List ℕ) (pairs : List Pair) (covered n : ℕ) → Packs places pairs covered → Names pairs n → IsAmong (first_numbers covered places) n
names_covered places [] covered n none names = absurd names
names_covered places (p ∷ pairs) covered n (count, later, takes, rest, e) names =
    let parts : first_numbers covered places ≡ map number (take count places) ++ first_numbers later (drop count places) =
    ap (map number) (covered_parts places count later covered e) ∙ map-append number (take count places) (take later (drop count places)) in
    subst (λ ns. IsAmong ns n) (sym parts) (elim names [
      | inl here ↦ IsAmong-append_left (map number (take count places)) (first_numbers later (drop count places)) n (pair_names_part places p count n takes here)
      | inr there ↦ IsAmong-append_right (map number (take count places)) (first_numbers later (drop count places)) n (names_covered (drop count places) pairs later n rest there)
    ])

pub covered_is_named : (places : List ℕ) (pairs : List Pair) (covered n : ℕ) → Packs places pairs covered → IsAmong (first_numbers covered places) n → Names pairs n
covered_is_named places [] covered n none among = let nothing : first_numbers covered places ≡ [] = ap (λ k. first_numbers k places) none in subst (λ ns. IsAmong ns n) nothing among
covered_is_named places (p ∷ pairs) covered n (count, later, takes, rest, e) among =
    let parts : first_numbers covered places ≡ map number (take count places) ++ first_numbers later (drop count places) =
    ap (map number) (covered_parts places count later covered e) ∙ map-append number (take count places) (take later (drop count places)) in
    elim (IsAmong-append (map number (take count places)) (first_numbers later (drop count places)) n (subst (λ ns. IsAmong ns n) parts among)) [
      | inl here ↦ inl (part_is_named places p count n takes here)
      | inr there ↦ inr (covered_is_named (drop count places) pairs later n rest there)
    ]

-- where the pairs start
pub record Started (places : List ℕ) (pairs : List Pair) (covered : ℕ) : Type 0 where
  pub starts : List ℕ
  pub among : All (Contains (take covered places)) starts
  pub apart : StartApart pairs starts

pub started : (places : List ℕ) (pairs : List Pair) (covered : ℕ) → Packs places pairs covered → Started places pairs covered
started places [] covered none = record { starts = []; among = All-nil (Contains (take covered places)); apart = tt }
started places (p ∷ pairs) covered (count, later, takes, rest, e) =
    let others = started (drop count places) pairs later rest in
    let first = get_or places 0 0 in
    let parts = covered_parts places count later covered e in
    let here : Contains (take covered places) first =
    Contains-from_among (take covered places) first
    (subst (λ t. IsAmong t first) (sym parts) (IsAmong-append_left (take count places) (take later (drop count places)) first (first_taken places p count takes))) in
    let there : (q : ℕ) → Contains (take later (drop count places)) q → Contains (take covered places) q = λ q c.
    subst (λ t. Contains t q) (sym parts) (Contains-append_right (take count places) (take later (drop count places)) q c) in
    let above : (q : ℕ) → Contains (take later (drop count places)) q → first + 16 < q = λ q c.
    All-contains (λ r. first + 16 < r) (take later (drop count places)) q (All-take (λ r. first + 16 < r) later (drop count places) takes.rest) c in
    record {
      starts = first ∷ others.starts;
      among = All-cons (Contains (take covered places)) first others.starts here
          (All-weaker (Contains (take later (drop count places))) (Contains (take covered places)) there others.starts others.among);
      apart = (
        takes.pid,
        All-weaker (Contains (take later (drop count places))) (λ q. first + 16 < q) above others.starts others.among,
        others.apart,
      );
    }

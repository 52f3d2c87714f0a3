-- No shorter list of pairs names the places of a packing: each pair names at most one of its starts.
use Rattle.std.proofs.Common.{◌≡◌, ℕ, suc, ◌+◌, ◌-◌, ◌<◌, ◌≤◌, ◌⊎◌, List, [], ◌∷◌, length, take, drop, get_or, refl, subst, sym, arith, inl, inr}
use Rattle.std.proofs.lemmas.List.{length-drop, length-take}
use Rattle.std.proofs.lemmas.List.Elements.{All-drop, All-take, All-contains, All-get_or}
use Rattle.places.specs.Place.{number}
use Rattle.fbwire.specs.declared.nack.Pair.{Pair}
use Rattle.fbwire.specs.Nack.{PairNames, Names}
use Rattle.fbwire.proofs.NameLists.{IsAmong, Contains-from_among, IsAmong-append_left, IsAmong-append_right}
use Rattle.fbwire.proofs.PackingSteps.{Packs, AreNear, first_taken, covered_parts}

-- the pairs but one, which names the number
pub record Without (pairs : List Pair) (n : ℕ) : Type 0 where
  pub pair : Pair
  pub others : List Pair
  pub shorter : length pairs ≡ suc (length others)
  pub names : PairNames pair n
  pub kept : (m : ℕ) → Names pairs m → PairNames pair m ⊎ Names others m

pub without : (pairs : List Pair) (n : ℕ) → Names pairs n → Without pairs n
without [] n names = absurd names
without (p ∷ pairs) n (inl here) = record { pair = p; others = pairs; shorter = refl; names = here; kept = λ m named. named }
without (p ∷ pairs) n (inr there) =
    let r = without pairs n there in
    let shorter = r.shorter in
    record {
      pair = r.pair;
      others = p ∷ r.others;
      shorter = omega arith;
      names = r.names;
      kept = λ m named. elim named [
        | inl here ↦ inr (inl here)
        | inr later ↦ elim (r.kept m later) [ inl its ↦ inl its | inr rest ↦ inr (inr rest) ]
      ];
    }

-- a pair names no two places that are more than 16 apart, and within the reach of sequence numbers
pub names_one : (p : Pair) (a b : ℕ) → PairNames p (number a) → PairNames p (number b) → a + 16 < b → b < a + 8192 → ⊥
names_one p a b (inl e) (inl f) apart near = omega arith
names_one p a b (inl e) (inr (j, (some, small, set), f)) apart near = omega arith
names_one p a b (inr (i, (some, small, set), e)) (inl f) apart near = omega arith
names_one p a b (inr (i, (some, small, set), e)) (inr (j, (some', small', set'), f)) apart near = omega arith

-- Whatever names the first n places has as many pairs as those that were taken for a part of them, and more
-- where n is more than that part.
pub needs : (lowest : ℕ) (places : List ℕ) (pairs : List Pair) (covered n : ℕ) → AreNear lowest places → Packs places pairs covered → covered ≤ n → n ≤ length places
    → (others : List Pair) → ((q : ℕ) → IsAmong (take n places) q → Names others (number q))
    → (length pairs ≤ length others) × (covered < n → length pairs < length others)
needs lowest places [] covered n near none fewer enough others named = (
  omega arith,
  λ more. some_named (take n places) others (omega (arith, length-take n places)) named,
)
  where
    some_named : (qs : List ℕ) (os : List Pair) → 0 < length qs → ((q : ℕ) → IsAmong qs q → Names os (number q)) → 0 < length os
    some_named [] os some all = absurd (omega arith)
    some_named (q ∷ qs) [] some all = absurd (all q (inl refl))
    some_named (q ∷ qs) (o ∷ os) some all = omega arith
needs lowest places (p ∷ pairs) covered n near (count, later, takes, rest, e) fewer enough others named =
    let first = get_or places 0 0 in
    let left = drop count places in
    let some = takes.some in let inside = takes.within in
    let parts = covered_parts places count (n - count) n (omega arith) in
    let here : IsAmong (take n places) first =
    subst (λ t. IsAmong t first) (sym parts) (IsAmong-append_left (take count places) (take (n - count) left) first (first_taken places p count takes)) in
    let w = without others (number first) (named first here) in
    let first_near = All-get_or (λ q. (lowest ≤ q) × (q < lowest + 8192)) places 0 0 (omega arith) near in
    let left_near : AreNear lowest left = All-drop (λ q. (lowest ≤ q) × (q < lowest + 8192)) count places near in
    let left_named : (q : ℕ) → IsAmong (take (n - count) left) q → Names w.others (number q) = λ q among.
    let there : IsAmong (take n places) q = subst (λ t. IsAmong t q) (sym parts) (IsAmong-append_right (take count places) (take (n - count) left) q among) in
    let contains = Contains-from_among (take (n - count) left) q among in
    let above : first + 16 < q = All-contains (λ r. first + 16 < r) (take (n - count) left) q (All-take (λ r. first + 16 < r) (n - count) left takes.rest) contains in
    let q_near = All-contains (λ r. (lowest ≤ r) × (r < lowest + 8192)) (take (n - count) left) q (All-take (λ r. (lowest ≤ r) × (r < lowest + 8192)) (n - count) left left_near) contains in
    let low = first_near.0 in let high = q_near.1 in
    elim (w.kept (number q) (named q there)) [
      | inl its ↦ absurd (names_one w.pair first q w.names its above (omega arith))
      | inr other ↦ other
    ] in
    let r = needs lowest left pairs later (n - count) left_near rest (omega arith) (omega (arith, length-drop count places)) w.others left_named in
    let shorter = w.shorter in
    let enough_pairs = r.0 in
    (omega arith, λ more. let more_pairs = r.1 (omega arith) in omega arith)

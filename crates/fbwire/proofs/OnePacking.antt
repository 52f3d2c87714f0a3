-- There is one packing at most.
use Rattle.std.proofs.Common.{◌≡◌, ℕ, ◌+◌, ◌-◌, ◌^◌, ◌<◌, ◌≤◌, ◌⊎◌, eqb, List, [], ◌∷◌, take, map, get_or, refl, ap, subst, sym, ◌∙◌, arith, inl, inr}
use Rattle.std.specs.List.{All, Contains}
use Rattle.std.specs.List.Sorted.{IsStrictlyIncreasing}
use Rattle.std.specs.Int.{bit_at}
use Rattle.std.proofs.lemmas.Bool.{cases_eq, eqb-true}
use Rattle.std.proofs.lemmas.Nat.Bits.{same_from_bits_below, bit_at-lt}
use Rattle.std.proofs.lemmas.List.Elements.{All-head, All-tail, All-take, All-contains, All-weaker}
use Rattle.places.specs.Place.{number}
use Rattle.fbwire.specs.declared.nack.Pair.{Pair}
use Rattle.fbwire.specs.Nack.{IsPair, Names, IsMaskBit}
use Rattle.fbwire.specs.Packing.{IsNarrow, IsPacking, StartApart}
use Rattle.fbwire.proofs.NameLists.{IsAmong, IsAmong-from_contains, Contains-from_among, IsAmong-map, IsAmong-from_map}
use Rattle.fbwire.proofs.PackingSteps.{AreNear}
use Rattle.fbwire.proofs.Packings.{all_near}

-- a pair that starts at a place covers it, and the place i above it for each set bit i
abbrev pub CoversFrom : ℕ → Pair → ℕ → Type 0
CoversFrom start p q = (q ≡ start) ⊎ ((i : ℕ) × IsMaskBit p.blp i × (q ≡ start + i))

abbrev pub Covers : List Pair → List ℕ → ℕ → Type 0
Covers [] starts q = ⊥
Covers (p ∷ pairs) [] q = ⊥
Covers (p ∷ pairs) (start ∷ starts) q = CoversFrom start p q ⊎ Covers pairs starts q

-- what one pair covers lies at most 16 above its start
from_start : (start : ℕ) (p : Pair) (q : ℕ) → CoversFrom start p q → (start ≤ q) × (q ≤ start + 16)
from_start start p q (inl e) = (omega arith, omega arith)
from_start start p q (inr (i, (some, small, set), e)) = (omega arith, omega arith)

-- what pairs cover lies above what their starts lie above
above : (bound : ℕ) (pairs : List Pair) (starts : List ℕ) (q : ℕ) → All (λ start. bound < start) starts → Covers pairs starts q → bound < q
above bound [] starts q over covers = absurd covers
above bound (p ∷ pairs) [] q over covers = absurd covers
above bound (p ∷ pairs) (start ∷ starts) q over (inl here) =
    let first = All-head (λ s. bound < s) start starts over in let low = (from_start start p q here).0 in omega arith
above bound (p ∷ pairs) (start ∷ starts) q over (inr there) = above bound pairs starts q (All-tail (λ s. bound < s) start starts over) there

-- bit i + 1 of a mask, as the bit at place i
bit_of : (mask i : ℕ) → IsMaskBit mask (i + 1) → bit_at mask i ≡ 1
bit_of mask i (some, small, set) =
    let at : i ≡ i + 1 - 1 = omega arith in ap (bit_at mask) at ∙ eqb-true _ _ set

set_of : (mask i : ℕ) → i < 16 → bit_at mask i ≡ 1 → IsMaskBit mask (i + 1)
set_of mask i small is =
    let at : i + 1 - 1 ≡ i = omega arith in (omega arith, omega arith, ap (λ b. eqb b 1) (ap (bit_at mask) at ∙ is))

-- masks with the same bits are one
same_masks : (a b : ℕ) → a < 2 ^ 16 → b < 2 ^ 16 → ((i : ℕ) → IsMaskBit a i → IsMaskBit b i) → ((i : ℕ) → IsMaskBit b i → IsMaskBit a i) → a ≡ b
same_masks a b a_fits b_fits to back = same_from_bits_below 16 a b a_fits b_fits (λ i small.
    let a_bit = bit_at-lt a i in let b_bit = bit_at-lt b i in
    elim (cases_eq (bit_at a i) 1) [
      | inl is ↦ is ∙ sym (bit_of b i (to (i + 1) (set_of a i small is)))
      | inr is_not ↦
          let b_not : bit_at b i ≡ 1 → ⊥ = λ is. is_not (bit_of a i (back (i + 1) (set_of b i small is))) in
          omega arith
    ])

-- where a pair's places are covered from the same start, its bits are those of the pair there
same_bits : (x y : ℕ) (p r : Pair) (b : List Pair) (ys : List ℕ) → x ≡ y → All (λ start. y + 16 < start) ys
    → ((q : ℕ) → CoversFrom x p q → Covers (r ∷ b) (y ∷ ys) q) → (i : ℕ) → IsMaskBit p.blp i → IsMaskBit r.blp i
same_bits x y p r b ys same over to i set =
    let some = set.0 in let small = set.1 in
    elim (to (x + i) (inr (i, set, refl))) [
      | inl here ↦ elim here [
        | inl e ↦ absurd (omega arith)
        | inr bit ↦ let e = bit.2 in let is : bit.0 ≡ i = omega arith in subst (IsMaskBit r.blp) is bit.1
      ]
      | inr there ↦ absurd (let high = above (y + 16) b ys (x + i) over there in omega arith)
    ]

-- what the pairs after the first cover
same_rest : (x y : ℕ) (p r : Pair) (a b : List Pair) (xs ys : List ℕ) → x ≡ y → All (λ start. x + 16 < start) xs
    → ((q : ℕ) → Covers (p ∷ a) (x ∷ xs) q → Covers (r ∷ b) (y ∷ ys) q) → (q : ℕ) → Covers a xs q → Covers b ys q
same_rest x y p r a b xs ys same over to q covers =
    let high = above (x + 16) a xs q over covers in
    elim (to q (inr covers)) [
      | inl here ↦ absurd (let low = (from_start y r q here).1 in omega arith)
      | inr there ↦ there
    ]

-- no pair of the one list starts below all of the other
not_below : (x : ℕ) (p : Pair) (y : ℕ) (r : Pair) (b : List Pair) (ys : List ℕ) → All (λ start. y + 16 < start) ys → Covers (r ∷ b) (y ∷ ys) x → y ≤ x
not_below x p y r b ys over (inl here) = (from_start y r x here).0
not_below x p y r b ys over (inr there) = let high = above (y + 16) b ys x over there in omega arith

-- pairs that start apart and cover the same places are the same pairs
same_pairs : (a b : List Pair) (xs ys : List ℕ) → StartApart a xs → StartApart b ys → All IsPair a → All IsPair b
    → ((q : ℕ) → Covers a xs q → Covers b ys q) → ((q : ℕ) → Covers b ys q → Covers a xs q) → a ≡ b
same_pairs [] [] xs ys a_apart b_apart a_fit b_fit to back = refl
same_pairs [] (r ∷ b) xs [] a_apart b_apart a_fit b_fit to back = absurd b_apart
same_pairs [] (r ∷ b) xs (y ∷ ys) a_apart b_apart a_fit b_fit to back = absurd (back y (inl (inl refl)))
same_pairs (p ∷ a) b [] ys a_apart b_apart a_fit b_fit to back = absurd a_apart
same_pairs (p ∷ a) [] (x ∷ xs) ys a_apart b_apart a_fit b_fit to back = absurd (to x (inl (inl refl)))
same_pairs (p ∷ a) (r ∷ b) (x ∷ xs) [] a_apart b_apart a_fit b_fit to back = absurd b_apart
same_pairs (p ∷ a) (r ∷ b) (x ∷ xs) (y ∷ ys) a_apart b_apart a_fit b_fit to back =
    let y_first = not_below x p y r b ys b_apart.1 (to x (inl (inl refl))) in
    let x_first = not_below y r x p a xs a_apart.1 (back y (inl (inl refl))) in
    let same : x ≡ y = omega arith in
    let p_fits = All-head IsPair p a a_fit in
    let r_fits = All-head IsPair r b b_fit in
    let pids : p.pid ≡ r.pid = a_apart.0 ∙ ap number same ∙ sym b_apart.0 in
    let masks : p.blp ≡ r.blp = same_masks p.blp r.blp p_fits.blp r_fits.blp
    (same_bits x y p r b ys same b_apart.1 (λ q here. to q (inl here)))
    (same_bits y x r p a xs (sym same) a_apart.1 (λ q here. back q (inl here))) in
    let rest : a ≡ b = same_pairs a b xs ys a_apart.2 b_apart.2 (All-tail IsPair p a a_fit) (All-tail IsPair r b b_fit)
    (same_rest x y p r a b xs ys same a_apart.1 to) (same_rest y x r p b a ys xs (sym same) b_apart.1 back) in
    λ i. record { pid = pids i; blp = masks i } ∷ rest i

-- ---- numbers and places

-- what is covered is named
covers_named : (pairs : List Pair) (starts : List ℕ) (q : ℕ) → StartApart pairs starts → Covers pairs starts q → Names pairs (number q)
covers_named [] starts q apart covers = absurd covers
covers_named (p ∷ pairs) [] q apart covers = absurd covers
covers_named (p ∷ pairs) (start ∷ starts) q apart (inl (inl e)) = inl (inl (ap number e ∙ sym apart.0))
covers_named (p ∷ pairs) (start ∷ starts) q apart (inl (inr (i, set, e))) = let pid = apart.0 in inl (inr (i, set, omega arith))
covers_named (p ∷ pairs) (start ∷ starts) q apart (inr there) = inr (covers_named pairs starts q apart.2 there)

-- and what is named is covered, within the reach of sequence numbers
named_covers : (lowest : ℕ) (pairs : List Pair) (starts : List ℕ) (q : ℕ) → StartApart pairs starts → AreNear lowest starts
    → lowest ≤ q → q < lowest + 8192 → Names pairs (number q) → Covers pairs starts q
named_covers lowest [] starts q apart near low high names = absurd names
named_covers lowest (p ∷ pairs) [] q apart near low high names = absurd apart
named_covers lowest (p ∷ pairs) (start ∷ starts) q apart near low high (inl (inl e)) =
    let pid = apart.0 in
    let start_near = All-head (λ s. (lowest ≤ s) × (s < lowest + 8192)) start starts near in
    let start_low = start_near.0 in let start_high = start_near.1 in
    inl (inl (omega arith))
named_covers lowest (p ∷ pairs) (start ∷ starts) q apart near low high (inl (inr (i, (some, small, set), e))) =
    let pid = apart.0 in
    let start_near = All-head (λ s. (lowest ≤ s) × (s < lowest + 8192)) start starts near in
    let start_low = start_near.0 in let start_high = start_near.1 in
    inl (inr (i, (some, small, set), omega arith))
named_covers lowest (p ∷ pairs) (start ∷ starts) q apart near low high (inr there) =
    inr (named_covers lowest pairs starts q apart.2 (All-tail (λ s. (lowest ≤ s) × (s < lowest + 8192)) start starts near) low high there)

-- where covered places lie
covers_near : (lowest : ℕ) (pairs : List Pair) (starts : List ℕ) (q : ℕ) → AreNear lowest starts → Covers pairs starts q → (lowest ≤ q) × (q < lowest + 8208)
covers_near lowest [] starts q near covers = absurd covers
covers_near lowest (p ∷ pairs) [] q near covers = absurd covers
covers_near lowest (p ∷ pairs) (start ∷ starts) q near (inl here) =
    let start_near = All-head (λ s. (lowest ≤ s) × (s < lowest + 8192)) start starts near in
    let start_low = start_near.0 in let start_high = start_near.1 in
    let around = from_start start p q here in let low = around.0 in let high = around.1 in
    (omega arith, omega arith)
covers_near lowest (p ∷ pairs) (start ∷ starts) q near (inr there) =
    covers_near lowest pairs starts q (All-tail (λ s. (lowest ≤ s) × (s < lowest + 8192)) start starts near) there

-- the pairs of a packing cover the places that it covers, and no others
record CoversExactly (places : List ℕ) (pairs : List Pair) (starts : List ℕ) (covered : ℕ) : Type 0 where
  only : (q : ℕ) → Covers pairs starts q → IsAmong (take covered places) q
  all : (q : ℕ) → IsAmong (take covered places) q → Covers pairs starts q

covers_exactly : (places : List ℕ) (pairs : List Pair) (covered : ℕ) → IsStrictlyIncreasing places → IsNarrow places
    → (packing : IsPacking places pairs covered) → CoversExactly places pairs packing.starts covered
covers_exactly places pairs covered rising narrow packing =
    let lowest = get_or places 0 0 in
    let taken = take covered places in
    let near : AreNear lowest taken = All-take (λ s. (lowest ≤ s) × (s < lowest + 8192)) covered places (all_near places rising narrow) in
    let near_at : (q : ℕ) → Contains taken q → (lowest ≤ q) × (q < lowest + 8192) = λ q contains.
    All-contains (λ s. (lowest ≤ s) × (s < lowest + 8192)) taken q near contains in
    let starts_near : AreNear lowest packing.starts = All-weaker (Contains taken) (λ s. (lowest ≤ s) × (s < lowest + 8192)) near_at packing.starts packing.among in
    let exact = packing.fewest.exact in
    record {
      only = λ q covers.
          let named = (exact (number q)).0 (covers_named pairs packing.starts q packing.apart covers) in
          let from = IsAmong-from_map number taken (number q) (IsAmong-from_contains (map number taken) (number q) named) in
          let same_number : number q ≡ number from.0 = from.2 in
          let place_near = near_at from.0 (Contains-from_among taken from.0 from.1) in
          let place_low = place_near.0 in let place_high = place_near.1 in
          let q_near = covers_near lowest pairs packing.starts q starts_near covers in
          let q_low = q_near.0 in let q_high = q_near.1 in
          let same : from.0 ≡ q = omega arith in
          subst (IsAmong taken) same from.1;
      all = λ q among.
          let q_near = near_at q (Contains-from_among taken q among) in
          named_covers lowest pairs packing.starts q packing.apart starts_near q_near.0 q_near.1
          ((exact (number q)).1 (Contains-from_among (map number taken) (number q) (IsAmong-map number taken q among)));
    }

pub one_packing : (places : List ℕ) (a b : List Pair) (m n : ℕ) → IsStrictlyIncreasing places → IsNarrow places
    → IsPacking places a m → IsPacking places b n → (a ≡ b) × (m ≡ n)
one_packing places a b m n rising narrow p q =
    let no_more = q.longest m a p.within p.few p.fewest.exact in
    let no_fewer = p.longest n b q.within q.few q.fewest.exact in
    let same : m ≡ n = omega arith in
    let p_covers = covers_exactly places a m rising narrow p in
    let q_covers = covers_exactly places b n rising narrow q in (
      same_pairs a b p.starts q.starts p.apart q.apart p.fit q.fit
          (λ s covers. q_covers.all s (subst (λ k. IsAmong (take k places) s) same (p_covers.only s covers)))
          (λ s covers. p_covers.all s (subst (λ k. IsAmong (take k places) s) (sym same) (q_covers.only s covers))),
      same,
    )

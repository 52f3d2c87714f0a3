-- What was taken pair by pair is a packing.
use Rattle.std.proofs.Common.{◌≡◌, ℕ, ◌+◌, ◌-◌, ◌<◌, ◌≤◌, List, [], ◌∷◌, ◌++◌, length, take, drop, map, get_or, refl, ap, subst, sym, arith, inl, inr, append-nil, append_assoc}
use Rattle.std.specs.List.Sorted.{IsStrictlyIncreasing}
use Rattle.std.proofs.lemmas.Bool.{cases_lt}
use Rattle.std.proofs.lemmas.List.{length-drop, get_or-drop, get_or_default, take_rest, take_all, drop-drop}
use Rattle.places.specs.Place.{number}
use Rattle.fbwire.specs.declared.nack.Pair.{Pair}
use Rattle.fbwire.specs.Nack.{Names}
use Rattle.fbwire.specs.Packing.{NamesExactly, IsNarrow, IsPacking, first_numbers}
use Rattle.fbwire.specs.PackingSteps.{TakesFirst}
use Rattle.fbwire.proofs.NameLists.{IsAmong, IsAmong-from_contains, Contains-from_among, IsAmong-map}
use Rattle.fbwire.proofs.FirstPair.{rises, none_below_first}
use Rattle.fbwire.proofs.PackingSteps.{Packs, AreNear, within, fit, names_covered, covered_is_named, started}
use Rattle.fbwire.proofs.Fewest.{needs}

-- the part of a rising list from a place on
pub rising_rest : (places : List ℕ) (n : ℕ) → IsStrictlyIncreasing places → IsStrictlyIncreasing (drop n places)
rising_rest places n rising k inside =
    let this = get_or-drop n places k 0 in
    let next = get_or-drop n places (k + 1) 0 in
    let step = rises places rising (n + k) (n + (k + 1)) (omega arith) (omega (arith, length-drop n places)) in
    omega arith

-- narrow and rising places are near one another
pub all_near : (places : List ℕ) → IsStrictlyIncreasing places → IsNarrow places → AreNear (get_or places 0 0) places
all_near places rising narrow k d inside =
    let low = none_below_first places rising k d inside in
    let same = get_or_default places k 0 d inside in
    elim (cases_lt k (length places - 1)) [
      | inl before ↦ let less = rises places rising k (length places - 1) before (omega arith) in (low, omega arith)
      | inr last ↦ let is : get_or places k 0 ≡ get_or places (length places - 1) 0 = ap (λ i. get_or places i 0) (omega arith) in (low, omega arith)
    ]

-- what names exactly the first numbers names each of the places
pub named_places : (places : List ℕ) (n : ℕ) (pairs : List Pair) → NamesExactly pairs (first_numbers n places)
    → (q : ℕ) → IsAmong (take n places) q → Names pairs (number q)
named_places places n pairs exact q among =
    (exact (number q)).1 (Contains-from_among (first_numbers n places) (number q) (IsAmong-map number (take n places) q among))

pub packing : (places : List ℕ) (pairs : List Pair) (covered : ℕ) → IsStrictlyIncreasing places → IsNarrow places → Packs places pairs covered
    → length pairs ≤ 64 → (covered < length places → length pairs ≡ 64) → IsPacking places pairs covered
packing places pairs covered rising narrow packs few full =
    let near = all_near places rising narrow in
    let inside = within places pairs covered packs in
    let start = started places pairs covered packs in
    record {
      within = inside;
      fit = fit places pairs covered packs;
      few = few;
      fewest = record {
        exact = λ n. (
          λ names. Contains-from_among (first_numbers covered places) n (names_covered places pairs covered n packs names),
          λ contains. covered_is_named places pairs covered n packs (IsAmong-from_contains (first_numbers covered places) n contains),
        );
        fewest = λ others exact.
            (needs (get_or places 0 0) places pairs covered covered near packs (omega arith) inside others (named_places places covered others exact)).0;
      };
      longest = λ n others enough few_others exact. elim (cases_lt covered n) [
        | inl more ↦
            let pairs_full = full (omega arith) in
            let longer = (needs (get_or places 0 0) places pairs covered n near packs (omega arith) enough others (named_places places n others exact)).1 more in
            absurd (omega arith)
        | inr most ↦ most
      ];
      starts = start.starts;
      among = start.among;
      apart = start.apart;
    }

-- Whatever pairs are taken of the places that are left, the pairs so far are taken before them.
abbrev pub PacksBefore : List ℕ → List Pair → ℕ → Type 0
PacksBefore places pairs covered = (more : List Pair) (n : ℕ) → Packs (drop covered places) more n → Packs places (pairs ++ more) (covered + n)

pub packs_none : (places : List ℕ) → PacksBefore places [] 0
packs_none places more n packs = subst (Packs places more) (omega arith) packs

pub packs_more : (places : List ℕ) (pairs : List Pair) (covered : ℕ) (p : Pair) (count : ℕ) → PacksBefore places pairs covered
    → TakesFirst (take (length places - covered) (drop covered places)) p count → PacksBefore places (pairs ++ p ∷ []) (covered + count)
packs_more places pairs covered p count before takes more n packs =
    let here : TakesFirst (drop covered places) p count = subst (λ t. TakesFirst t p count) (take_rest places covered) takes in
    let there : Packs (drop count (drop covered places)) more n = subst (λ t. Packs t more n) (sym (drop-drop count covered places)) packs in
    let joined = before (p ∷ more) (count + n) (count, n, here, there, refl) in
    let pairs_are : pairs ++ p ∷ more ≡ (pairs ++ p ∷ []) ++ more = sym (append_assoc pairs (p ∷ []) more) in
    let covered_is : covered + (count + n) ≡ covered + count + n = omega arith in
    subst (λ ps. Packs places ps (covered + count + n)) pairs_are (subst (Packs places (pairs ++ p ∷ more)) covered_is joined)

pub packs_all : (places : List ℕ) (pairs : List Pair) (covered : ℕ) → PacksBefore places pairs covered → Packs places pairs covered
packs_all places pairs covered before =
    let none : covered + 0 ≡ covered = omega arith in
    subst (λ ps. Packs places ps covered) (append-nil pairs) (subst (Packs places (pairs ++ [])) none (before [] 0 refl))

-- of some places some are covered, by some pairs
pub some_packed : (places : List ℕ) (pairs : List Pair) (covered : ℕ) → Packs places pairs covered → (covered < length places → length pairs ≡ 64)
    → 0 < length places → (0 < length pairs) × (0 < covered)
some_packed places [] covered none full some = absurd (let many = full (omega (arith, none, some)) in omega (arith, many))
some_packed places (p ∷ pairs) covered (count, later, takes, rest, e) full some = let more = takes.some in (omega arith, omega (arith, more, e))

-- where 64 pairs can name all, all are covered
pub whole : (places : List ℕ) (pairs : List Pair) (covered : ℕ) → IsPacking places pairs covered
    → (others : List Pair) → length others ≤ 64 → NamesExactly others (map number places) → covered ≡ length places
whole places pairs covered p others few exact =
    let all : take (length places) places ≡ places = take_all (length places) places (omega arith) in
    let most = p.longest (length places) others (omega arith) few (subst (λ t. NamesExactly others (map number t)) (sym all) exact) in
    let inside = p.within in
    omega arith

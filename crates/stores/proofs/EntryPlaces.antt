-- What a history has at each place, and what the calls leave there.
use Rattle.std.proofs.Common.{◌≡◌, ◌↔◌, ℕ, ◌+◌, ◌-◌, ◌^◌, ◌<◌, ◌≤◌, Bool, true, false, List, [], ◌∷◌, length, slice_get, Option, Some, None, IsSome, nat_lt, cond, ap, sym, subst, ◌∙◌, refl, arith}
use Rattle.std.specs.Option.{ForSome, option_map}
use Rattle.std.proofs.lemmas.Bool.Decides.{nat_tests}
use Rattle.std.proofs.lemmas.Option.{same_Some, slice_get-get_or}
use Rattle.places.specs.Place.{number}
use Rattle.stores.specs.declared.entry.HistoryEntry.{HistoryEntry}
use Rattle.stores.specs.Past.{Past, IsPast, IsRun, first_of, next_of, entry_of, entry_at}
use Rattle.stores.specs.PastByPlace.{IsKept}
use Rattle.stores.proofs.Lookup.{same_lists}
use Rattle.stores.proofs.Runs.{entry_of_run, entry_at_index, within_run}

-- a place within the run has an entry
has_entry : (k q : ℕ) (entries : List HistoryEntry) → IsRun k entries → k ≤ q → q - k < length entries → IsSome (entry_of entries q)
has_entry k q [] run above below = absurd (omega arith)
has_entry k q (entry ∷ entries) run above below =
    let here = entry_of_run k q (entry ∷ entries) run in
    let got = slice_get-get_or (entry ∷ entries) (q - k) entry below in
    grind (arith, nat_tests)

inside_of : (entries : List HistoryEntry) (capacity q : ℕ) → let h : Past = record { entries = entries; capacity = capacity } in
    ForSome (first_of h) (λ k. IsRun k entries) → IsSome (entry_at h q) ↔ IsKept h q
inside_of [] capacity q run = (λ some. absurd (cc), λ kept. absurd kept.0)
inside_of (entry ∷ entries) capacity q run = (
  λ some. let at = within_run entry.place q (entry ∷ entries) (run entry.place refl) some in (at.0, omega arith),
  λ kept. let above = kept.0 in let below = kept.1 in has_entry entry.place q (entry ∷ entries) (run entry.place refl) above (omega arith),
)

pub inside_by_place : (h : Past) (q : ℕ) → IsPast h → IsSome (entry_at h q) ↔ IsKept h q
inside_by_place h q is = inside_of h.entries h.capacity q is.run

-- the place where a run begins
abbrev pub base_of : List HistoryEntry → ℕ
base_of [] = 0
base_of (entry ∷ entries) = entry.place

pub based : (entries : List HistoryEntry) → ForSome (option_map (λ (entry : HistoryEntry). entry.place) (slice_get entries 0)) (λ k. IsRun k entries) → IsRun (base_of entries) entries
based [] run = λ i x e. absurd (cc)
based (entry ∷ entries) run = run entry.place refl

pub next_of_run : (k : ℕ) (entries : List HistoryEntry) → IsRun k entries → 0 < length entries →
    option_map (λ k. k + length entries) (option_map (λ (entry : HistoryEntry). entry.place) (slice_get entries 0)) ≡ Some (k + length entries)
next_of_run k [] run some = absurd (omega arith)
next_of_run k (entry ∷ entries) run some =
    let here : entry.place ≡ k = let at = (run 0 entry refl).0 in omega arith in
    ap (λ j. Some (j + length (entry ∷ entries))) here

ends_of : (entries : List HistoryEntry) (k next capacity : ℕ) → length entries ≤ capacity → option_map (λ (entry : HistoryEntry). entry.place) (slice_get entries 0) ≡ Some k →
    option_map (λ k. k + length entries) (option_map (λ (entry : HistoryEntry). entry.place) (slice_get entries 0)) ≡ Some next → (k < next) × (next ≤ k + capacity)
ends_of [] k next capacity room first last = absurd (cc)
ends_of (entry ∷ entries) k next capacity room first last =
    let at = same_Some entry.place k first in
    let end = same_Some (entry.place + length (entry ∷ entries)) next last in
    (omega arith, omega arith)

pub ends_by_place : (h : Past) (k next : ℕ) → IsPast h → first_of h ≡ Some k → next_of h ≡ Some next → (k < next) × (next ≤ k + h.capacity) × (next ≤ 2 ^ 48)
ends_by_place h k next is first last =
    let ends = ends_of h.entries k next h.capacity is.room first last in
    (ends.0, ends.1, is.ends next last)

pub has_its_place : (q : ℕ) (entry : HistoryEntry) (entries : List HistoryEntry) → entry_of entries q ≡ Some entry → entry.place ≡ q
has_its_place q entry [] e = absurd (cc)
has_its_place q entry (x ∷ entries) e = let rest = has_its_place q entry entries in grind (arith, nat_tests, rest)

got_by_test : (b : Bool) (o : Option HistoryEntry) (entry : HistoryEntry) → cond b None o ≡ Some entry → o ≡ Some entry
got_by_test true o entry e = absurd (cc)
got_by_test false o entry e = e

pub entry_by_place : (h : Past) (q : ℕ) (entry : HistoryEntry) → IsPast h → entry_at h q ≡ Some entry → (entry.place ≡ q) × (entry.repeats ≤ 255)
entry_by_place h q entry is e =
    let run = based h.entries is.run in
    let got = got_by_test (nat_lt q (base_of h.entries)) _ entry (sym (entry_of_run (base_of h.entries) q h.entries run) ∙ e) in
    (has_its_place q entry h.entries e, (run (q - base_of h.entries) entry got).1)

same_runs : (xs ys : List HistoryEntry) → IsRun (base_of xs) xs → IsRun (base_of ys) ys → ((q : ℕ) → entry_of ys q ≡ entry_of xs q) → ys ≡ xs
same_runs [] [] rx ry e = refl
same_runs [] (y ∷ ys) rx ry e = let some = subst IsSome (e y.place) (has_entry y.place y.place (y ∷ ys) ry (omega arith) (omega arith)) in absurd (cc)
same_runs (x ∷ xs) [] rx ry e = let some = subst IsSome (sym (e x.place)) (has_entry x.place x.place (x ∷ xs) rx (omega arith) (omega arith)) in absurd (cc)
same_runs (x ∷ xs) (y ∷ ys) rx ry e =
    let above = within_run y.place x.place (y ∷ ys) ry (subst IsSome (sym (e x.place)) (has_entry x.place x.place (x ∷ xs) rx (omega arith) (omega arith))) in
    let below = within_run x.place y.place (x ∷ xs) rx (subst IsSome (e y.place) (has_entry y.place y.place (y ∷ ys) ry (omega arith) (omega arith))) in
    let same : y.place ≡ x.place = omega arith in
    same_lists (x ∷ xs) (y ∷ ys)
    (λ i. entry_at_index y.place (x.place + i) i (y ∷ ys) ry (omega arith) ∙ e (x.place + i) ∙ sym (entry_at_index x.place (x.place + i) i (x ∷ xs) rx refl))

pub same_by_place : (s t : Past) → IsPast s → IsPast t → t.capacity ≡ s.capacity → ((q : ℕ) → entry_at t q ≡ entry_at s q) → t ≡ s
same_by_place s t is it capacity e =
    let entries = same_runs s.entries t.entries (based s.entries is.run) (based t.entries it.run) e in
    λ i. record { entries = entries i; capacity = capacity i }

-- two entries whose numbers are the same are one, since a run has at most 8192
pub one_by_place : (h : Past) (p q : ℕ) → IsPast h → IsSome (entry_at h p) → IsSome (entry_at h q) → number p ≡ number q → p ≡ q
one_by_place h p q is has_p has_q same =
    let run = based h.entries is.run in
    let at = within_run (base_of h.entries) p h.entries run has_p in
    let too = within_run (base_of h.entries) q h.entries run has_q in
    let room = is.room in
    let limit = is.limit in
    omega arith

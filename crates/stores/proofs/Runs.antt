-- Entries of places one after another: where each is found, and what changes leave of them.
use Rattle.std.proofs.Common.{◌≡◌, ◌≢◌, ℕ, zero, suc, ◌+◌, ◌-◌, ◌<◌, ◌≤◌, ◌==◌, ◌++◌, Bool, true, false, List, [], ◌∷◌, length, drop, slice_get, slice_set, Some, None, IsSome, nat_lt, cond, ap, sym, subst, ◌∙◌, refl, arith, ltb-true, ltb-false, ◌^◌, length-drop, length-set}
use Rattle.std.specs.Prelude.{if◌then◌else◌}
use Rattle.std.specs.Option.{ForSome, option_map}
use Rattle.std.proofs.lemmas.Bool.{eqb-true, eqb-false, cond_both}
use Rattle.std.proofs.lemmas.Bool.Decides.{nat_tests}
use Rattle.std.proofs.lemmas.Option.{same_Some, slice_get_within, slice_get_past}
use Rattle.stores.specs.declared.entry.HistoryEntry.{HistoryEntry}
use Rattle.stores.specs.Past.{IsRun, entry_of, with_change}
use Rattle.stores.proofs.Lookup.{slice_get-append_left, slice_get-append_right, slice_get-drop, slice_get-set_same, slice_get-set_other}

pub run_tail : (k : ℕ) (entry : HistoryEntry) (entries : List HistoryEntry) → IsRun k (entry ∷ entries) → IsRun (k + 1) entries
run_tail k entry entries run i x e = let at = run (suc i) x e in (omega arith, at.1)

entry_of_cons : (k q d : ℕ) (entry : HistoryEntry) (entries : List HistoryEntry) → q - k ≡ d → entry.place ≡ k →
    entry_of entries q ≡ (if nat_lt q (k + 1) then None else slice_get entries (q - (k + 1))) →
    entry_of (entry ∷ entries) q ≡ (if nat_lt q k then None else slice_get (entry ∷ entries) d)
entry_of_cons k q zero entry entries at here rest = grind (arith, nat_tests)
entry_of_cons k q (suc i) entry entries at here rest = let next : q - (k + 1) ≡ i = omega arith in grind (arith, nat_tests)

-- the entry of a place stands at the index that is as far from the first one
pub entry_of_run : (k q : ℕ) (entries : List HistoryEntry) → IsRun k entries → entry_of entries q ≡ (if nat_lt q k then None else slice_get entries (q - k))
entry_of_run k q [] run = cond_both (nat_lt q k) _ _ (λ z. None ≡ z) (λ _. refl) (λ _. refl)
entry_of_run k q (entry ∷ entries) run =
    let here : entry.place ≡ k = let at = (run 0 entry refl).0 in omega arith in
    entry_of_cons k q (q - k) entry entries refl here (entry_of_run (k + 1) q entries (run_tail k entry entries run))

index_within : (k q : ℕ) (entries : List HistoryEntry) (b : Bool) → nat_lt q k ≡ b → IsSome (cond b None (slice_get entries (q - k))) → (k ≤ q) × (q - k < length entries)
index_within k q entries true e some = absurd (cc)
index_within k q entries false e some = let past = slice_get_past entries (q - k) in (ltb-false q k e, grind arith)

-- a place that has an entry lies within the run
pub within_run : (k q : ℕ) (entries : List HistoryEntry) → IsRun k entries → IsSome (entry_of entries q) → (k ≤ q) × (q - k < length entries)
within_run k q entries run some = index_within k q entries (nat_lt q k) refl (subst IsSome (entry_of_run k q entries run) some)

-- the entry at the index of a place
pub entry_at_index : (k q i : ℕ) (entries : List HistoryEntry) → IsRun k entries → q ≡ k + i → slice_get entries i ≡ entry_of entries q
entry_at_index k q i entries run at =
    let here = entry_of_run k q entries run in
    let index : q - k ≡ i = omega arith in
    grind (arith, nat_tests)

-- a run after one of its entries was replaced
pub run_set : (k i : ℕ) (entry : HistoryEntry) (entries : List HistoryEntry) → IsRun k entries → i < length entries → entry.place ≡ k + i → entry.repeats ≤ 255 → IsRun k (slice_set entries i entry)
run_set k i entry entries run l place repeats j x e =
    cond_both (j == i) true false (λ _. (x.place ≡ k + j) × (x.repeats ≤ 255))
    (λ t. let at : j ≡ i = eqb-true j i t in
    let same : x ≡ entry = same_Some x entry (sym e ∙ ap (slice_get (slice_set entries i entry)) at ∙ slice_get-set_same entries i entry l) in
    rw same (place ∙ ap (λ n. k + n) (sym at), repeats))
    (λ t. run j x (sym (slice_get-set_other entries i j entry (eqb-false j i t)) ∙ e))

-- a run with one more entry
pub run_push : (k : ℕ) (entry : HistoryEntry) (entries : List HistoryEntry) → IsRun k entries → entry.place ≡ k + length entries → entry.repeats ≤ 255 → IsRun k (entries ++ entry ∷ [])
run_push k entry entries run place repeats j x e =
    cond_both (nat_lt j (length entries)) true false (λ _. (x.place ≡ k + j) × (x.repeats ≤ 255))
    (λ t. run j x (sym (slice_get-append_left entries (entry ∷ []) j (ltb-true _ _ t)) ∙ e))
    (λ t. let above : length entries ≤ j = ltb-false _ _ t in
    let got : slice_get (entry ∷ []) (j - length entries) ≡ Some x = sym (slice_get-append_right entries (entry ∷ []) j (j - length entries) (omega arith)) ∙ e in
    let last : j - length entries < 1 = slice_get_within (entry ∷ []) (j - length entries) x got in
    let at : j - length entries ≡ 0 = omega arith in
    let same : x ≡ entry = same_Some x entry (sym (rw at at got)) in
    rw same (place ∙ omega arith, repeats))

-- a run without its first entries
pub run_drop : (k n : ℕ) (entries : List HistoryEntry) → IsRun k entries → IsRun (k + n) (drop n entries)
run_drop k n entries run j x e = let at = run (n + j) x (sym (slice_get-drop n entries j (n + j) refl) ∙ e) in (omega arith, at.1)

change_nowhere : (change : HistoryEntry → HistoryEntry) (k q : ℕ) (entries : List HistoryEntry) → IsRun k entries → q < k → with_change change q entries ≡ entries
change_nowhere change k q [] run l = refl
change_nowhere change k q (entry ∷ entries) run l =
    let rest = change_nowhere change (k + 1) q entries (run_tail k entry entries run) (omega arith) in
    let other : entry.place ≢ q = λ e. let at = (run 0 entry refl).0 in omega arith in
    grind (arith, nat_tests)

-- a change of the entry of a place replaces the one at its index
pub set_is_change : (change : HistoryEntry → HistoryEntry) (k i q : ℕ) (entry : HistoryEntry) (entries : List HistoryEntry) → IsRun k entries → q ≡ k + i → slice_get entries i ≡ Some entry →
    slice_set entries i (change entry) ≡ with_change change q entries
set_is_change change k i q entry [] run at e = absurd (cc)
set_is_change change k zero q entry (x ∷ entries) run at e =
    let rest = change_nowhere change (k + 1) q entries (run_tail k x entries run) (omega arith) in
    let here : x.place ≡ q = let place = (run 0 x refl).0 in omega arith in
    let same : x ≡ entry = same_Some x entry e in
    grind (arith, nat_tests)
set_is_change change k (suc i) q entry (x ∷ entries) run at e =
    let rest = set_is_change change (k + 1) i q entry entries (run_tail k x entries run) (omega arith) e in
    let other : x.place ≢ q = λ e. let place = (run 0 x refl).0 in omega arith in
    grind (arith, nat_tests)

-- where the next entry goes
pub next_place : (k place : ℕ) (entries : List HistoryEntry) → IsRun k entries →
    ForSome (option_map (λ k. k + length entries) (option_map (λ (entry : HistoryEntry). entry.place) (slice_get entries 0))) (λ next. place ≡ next) →
    0 < length entries → place ≡ k + length entries
next_place k place [] run next some = absurd (omega arith)
next_place k place (entry ∷ entries) run next some = let at = next (entry.place + length (entry ∷ entries)) refl in let here = (run 0 entry refl).0 in omega arith

-- a run of no entries is one from any place
pub run_from : (k j : ℕ) (entries : List HistoryEntry) → IsRun k entries → (0 < length entries → j ≡ k) → IsRun j entries
run_from k j entries run same i x e =
    let within = slice_get_within entries i x e in
    let at = run i x e in
    let base = same (omega arith) in
    (omega arith, at.1)

-- the entries after a push, of which the first n were dropped
pub run_pushed : (k n place : ℕ) (entry : HistoryEntry) (entries : List HistoryEntry) → IsRun k entries → n ≤ length entries → (0 < length entries → place ≡ k + length entries) →
    entry.place ≡ place → entry.repeats ≤ 255 → IsRun (place - length (drop n entries)) (drop n entries ++ entry ∷ [])
run_pushed k n place entry entries run few next here repeats =
    let count = length-drop n entries in
    let kept : IsRun (place - length (drop n entries)) (drop n entries) =
    run_from (k + n) (place - length (drop n entries)) (drop n entries) (run_drop k n entries run) (λ some. let at = next (omega arith) in omega arith) in
    run_push (place - length (drop n entries)) entry (drop n entries) kept (grind (arith, next)) repeats

pub run_after_push : (k n place first : ℕ) (entry : HistoryEntry) (before kept after : List HistoryEntry) → IsRun k before → n ≤ length before →
    (0 < length before → place ≡ k + length before) → entry.place ≡ place → entry.repeats ≤ 255 →
    kept ≡ drop n before → after ≡ kept ++ entry ∷ [] → first ≡ place - length kept → IsRun first after
run_after_push k n place first entry before kept after run few next here repeats e pushed base =
    rw (base, pushed, e) (run_pushed k n place entry before run few next here repeats)

-- a run keeps its length when an entry is replaced
pub ends_set : (k i : ℕ) (entry : HistoryEntry) (entries : List HistoryEntry) → k + length entries ≤ 2 ^ 48 → k + length (slice_set entries i entry) ≤ 2 ^ 48
ends_set k i entry entries ends = let same = length-set entries i entry in omega arith

-- What the calls of a history leave at each place.
use Rattle.std.proofs.Common.{◌≡◌, ℕ, ◌+◌, ◌-◌, ◌<◌, ◌≤◌, ◌==◌, ◌++◌, List, [], ◌∷◌, length, drop, slice_get, Some, None, nat_lt, ap, ◌∙◌, refl, arith, length-drop, length-append}
use Rattle.std.proofs.lemmas.List.{length-map}
use Rattle.std.specs.Prelude.{if◌then◌else◌}
use Rattle.std.specs.Option.{ForSome, option_map}
use Rattle.std.proofs.lemmas.Bool.{cond_both}
use Rattle.std.proofs.lemmas.Bool.Decides.{nat_tests}
use Rattle.std.proofs.lemmas.Option.{slice_get_past}
use Rattle.rtpwire.specs.declared.content.Content.{Content}
use Rattle.stores.specs.declared.entry.HistoryEntry.{HistoryEntry}
use Rattle.stores.specs.Past.{Past, IsPast, IsRun, first_of, next_of, entry_of, fresh, pushed, with_change, changed_at, marked, marked_at, unmarked, unmarked_at, repeated, repeated_at}
use Rattle.stores.specs.PastByPlace.{Pushes, Changes}
use Rattle.stores.proofs.Lookup.{slice_get-append_left, slice_get-append_right, slice_get-drop}
use Rattle.stores.proofs.Runs.{entry_of_run, run_from, run_push, run_drop, next_place}
use Rattle.stores.proofs.EntryPlaces.{base_of, based, next_of_run}

module _ (k n p : ℕ) (content : Content) (entries : List HistoryEntry) where
  abbrev longer : List HistoryEntry
  longer = entries ++ fresh p content ∷ []

  longer_run : IsRun k entries → p ≡ k + length entries → IsRun (k + n) (drop n longer)
  longer_run run next = run_drop k n longer (run_push k (fresh p content) entries run next (omega arith))

  pushed_at : (capacity q : ℕ) → IsRun k entries → p ≡ k + length entries → 0 < capacity → length entries ≤ capacity → n ≡ length entries + 1 - capacity →
      entry_of (drop n longer) q ≡ (if q == p then Some (fresh p content) else (if nat_lt q (p + 1 - capacity) then None else entry_of entries q))
  pushed_at capacity q run next nonzero room few =
      let here = entry_of_run (k + n) q (drop n longer) (longer_run run next) in
      let before = entry_of_run k q entries run in
      let dropped = slice_get-drop n longer (q - (k + n)) (q - k) in
      let left = slice_get-append_left entries (fresh p content ∷ []) (q - k) in
      let right = slice_get-append_right entries (fresh p content ∷ []) (q - k) 0 in
      let count = length-append entries (fresh p content ∷ []) in
      let past = slice_get_past longer (q - k) in
      let none = slice_get_past entries (q - k) in
      grind (arith, nat_tests, here, before, dropped, left, right, past, none)

  pushed_next : IsRun k entries → p ≡ k + length entries → n ≤ length entries → next_of (record { entries = drop n longer; capacity = 0 }) ≡ Some (p + 1)
  pushed_next run next few =
      let count = length-append entries (fresh p content ∷ []) in
      let left = length-drop n longer in
      next_of_run (k + n) (drop n longer) (longer_run run next) (omega arith) ∙ ap Some (omega arith)

push_of : (entries : List HistoryEntry) (capacity p : ℕ) (content : Content) → let old : Past = record { entries = entries; capacity = capacity } in
    IsPast old → ForSome (next_of old) (λ next. p ≡ next) → Pushes old (pushed old p content) p content
push_of entries capacity p content is next =
    let run = based entries is.run in
    let room = is.room in
    let nonzero = is.nonzero in
    let above = next_place (base_of entries) p entries run next in
    let k : ℕ = p - length entries in
    let end : p ≡ k + length entries = grind (arith, above) in
    let moved : IsRun k entries = run_from (base_of entries) k entries run (λ some. let at = above some in omega arith) in
    let n : ℕ = length entries + 1 - capacity in
    record {
      next = pushed_next k n p content entries moved end (omega arith);
      entries = λ q. pushed_at k n p content entries capacity q moved end nonzero room refl;
      capacity = refl;
    }

pub push_by_place : (old new : Past) (p : ℕ) (content : Content) → IsPast old → ForSome (next_of old) (λ next. p ≡ next) → new ≡ pushed old p content → Pushes old new p content
push_by_place old new p content is next e = rw e (push_of old.entries old.capacity p content is next)

module _ (change : HistoryEntry → HistoryEntry) (keeps : (x : HistoryEntry) → (change x).place ≡ x.place) (p : ℕ) where
  changed_entry : (entries : List HistoryEntry) (q : ℕ) → entry_of (with_change change p entries) q ≡ (if q == p then option_map change (entry_of entries q) else entry_of entries q)
  changed_entry [] q = cond_both (q == p) _ _ (λ z. None ≡ z) (λ _. refl) (λ _. refl)
  changed_entry (x ∷ entries) q = let rest = changed_entry entries q in let same = keeps x in grind (arith, nat_tests, rest, same)

  changed_first : (entries : List HistoryEntry) → option_map (λ (x : HistoryEntry). x.place) (slice_get (with_change change p entries) 0) ≡ option_map (λ (x : HistoryEntry). x.place) (slice_get entries 0)
  changed_first [] = refl
  changed_first (x ∷ entries) = cond_both (x.place == p) _ _ (λ (y : HistoryEntry). Some y.place ≡ Some x.place) (λ _. ap Some (keeps x)) (λ _. refl)

  change_of : (old : Past) → Changes change old (changed_at change old p) p
  change_of old =
      let count = length-map old.entries (λ (x : HistoryEntry). if x.place == p then change x else x) in
      record {
        first = changed_first old.entries;
        next = ap (λ o. option_map (λ k. k + length (with_change change p old.entries)) o) (changed_first old.entries) ∙ ap (λ n. option_map (λ k. k + n) (first_of old)) count;
        entries = changed_entry old.entries;
        capacity = refl;
      }

pub mark_by_place : (old new : Past) (p : ℕ) → new ≡ marked_at old p → Changes marked old new p
mark_by_place old new p e = rw e (change_of marked (λ x. refl) p old)

pub unmark_by_place : (old new : Past) (p : ℕ) → new ≡ unmarked_at old p → Changes unmarked old new p
unmark_by_place old new p e = rw e (change_of unmarked (λ x. refl) p old)

pub repeat_by_place : (old new : Past) (p : ℕ) → new ≡ repeated_at old p → Changes repeated old new p
repeat_by_place old new p e = rw e (change_of repeated (λ x. refl) p old)

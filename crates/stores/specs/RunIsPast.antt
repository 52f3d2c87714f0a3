-- Entries one after another are a history: the proof of the law `is_past` of both stores. It stands here and not in
-- proofs/, since a ghost member of an `impl` takes words of its own crate from specs/ alone.
use Rattle.std.specs.Prelude.{◌≡◌, ℕ, ◌+◌, ◌^◌, ◌<◌, ◌≤◌, List, [], ◌∷◌, length, slice_get, Some}
use Rattle.std.proofs.Common.{refl, ap, sym, subst, ◌∙◌, arith}
use Rattle.std.proofs.lemmas.Option.{same_Some}
use Rattle.std.specs.Option.{option_map}
use Rattle.stores.specs.declared.entry.HistoryEntry.{HistoryEntry}
use Rattle.stores.specs.Past.{IsRun, IsPast}

first_is : (k j : ℕ) (entries : List HistoryEntry) → IsRun k entries → option_map (λ (entry : HistoryEntry). entry.place) (slice_get entries 0) ≡ Some j → j ≡ k
first_is k j [] run e = absurd (cc)
first_is k j (entry ∷ entries) run e = sym (same_Some entry.place j e) ∙ (let at = (run 0 entry refl).0 in omega arith)

next_is : (k next : ℕ) (entries : List HistoryEntry) → IsRun k entries →
    option_map (λ k. k + length entries) (option_map (λ (entry : HistoryEntry). entry.place) (slice_get entries 0)) ≡ Some next → next ≡ k + length entries
next_is k next [] run e = absurd (cc)
next_is k next (entry ∷ entries) run e =
    let place : entry.place ≡ k = let at = (run 0 entry refl).0 in omega arith in
    sym (same_Some _ next e) ∙ ap (λ j. j + length (entry ∷ entries)) place

pub past_of_run : (k : ℕ) (entries : List HistoryEntry) (capacity : ℕ) → length entries ≤ capacity → 0 < capacity → capacity ≤ 8192 → IsRun k entries → k + length entries ≤ 2 ^ 48 →
    IsPast (record { entries = entries; capacity = capacity })
past_of_run k entries capacity room nonzero limit run ends =
    record {
      room = room;
      nonzero = nonzero;
      limit = limit;
      run = λ j e. subst (λ i. IsRun i entries) (sym (first_is k j entries run e)) run;
      ends = λ next e. let at = next_is k next entries run e in omega arith;
    }

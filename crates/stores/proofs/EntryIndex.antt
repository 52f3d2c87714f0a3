-- What `find` answers where the entry at an index is known to be the first that passes.
use Rattle.std.proofs.Common.{◌≡◌, ◌≢◌, ℕ, zero, suc, ◌+◌, ◌-◌, ◌%◌, ◌<◌, ◌≤◌, ◌==◌, Bool, true, false, List, [], ◌∷◌, length, slice_get, Option, Some, None, ap, sym, ◌∙◌, refl, arith}
use Rattle.std.specs.Option.{option_map, SomeIff}
use Rattle.std.specs.List.{find}
use Rattle.std.proofs.lemmas.Bool.Decides.{nat_tests}
use Rattle.std.proofs.lemmas.Option.{same_Some, slice_get_within, slice_get-get_or}
use Rattle.places.specs.Place.{number}
use Rattle.stores.specs.declared.entry.HistoryEntry.{HistoryEntry}
use Rattle.stores.specs.Past.{IsRun, first_place}
use Rattle.stores.specs.PastByPlace.{is_marked}

chosen : {X : Type 0} (test : X → Bool) (x : X) (xs : List X) → test x ≡ true → find test (x ∷ xs) ≡ Some x
chosen test x xs passes = rw passes refl

find_first : {X : Type 0} (test : X → Bool) (xs : List X) (i : ℕ) (x : X) → slice_get xs i ≡ Some x → test x ≡ true → ((j : ℕ) (y : X) → j < i → slice_get xs j ≡ Some y → test y ≡ false) → find test xs ≡ Some x
find_first test [] i x e passes before = absurd (cc)
find_first test (y ∷ xs) zero x e passes before = let same = same_Some y x e in rw same (chosen test x xs passes)
find_first test (y ∷ xs) (suc i) x e passes before = rw (before 0 y (omega arith) refl) (find_first test xs i x e passes (λ j z l. before (suc j) z (omega arith)))

find_none : {X : Type 0} (test : X → Bool) (xs : List X) → ((j : ℕ) (y : X) → slice_get xs j ≡ Some y → test y ≡ false) → find test xs ≡ None
find_none test [] none = refl
find_none test (y ∷ xs) none = rw (none 0 y refl) (find_none test xs (λ j z. none (suc j) z))

-- the first place, where the first entry that passes has the index i
first_place_at : (test : HistoryEntry → Bool) (k i : ℕ) (x : HistoryEntry) (entries : List HistoryEntry) → IsRun k entries → slice_get entries i ≡ Some x → test x ≡ true →
    ((j : ℕ) (y : HistoryEntry) → j < i → slice_get entries j ≡ Some y → test y ≡ false) → first_place test entries ≡ Some (k + i)
first_place_at test k i x entries run e passes before =
    ap (option_map (λ (entry : HistoryEntry). entry.place)) (find_first test entries i x e passes before) ∙ ap Some (let at = (run i x e).0 in omega arith)

-- what `Place::new` answers for a number that is a place
pub new_is : (r : Option ℕ) (P : Type 0) (v : ℕ) → SomeIff r P v → P → r ≡ Some v
new_is None P v h p = absurd (h p)
new_is (Some x) P v h p = ap Some h.1

abbrev numbered_as : ℕ → HistoryEntry → Bool
numbered_as n entry = number entry.place == n

apart : (a b : ℕ) → a ≢ b → (a == b) ≡ false
apart a b h = grind (arith, nat_tests)

equal : (a b : ℕ) → a ≡ b → (a == b) ≡ true
equal a b h = grind (arith, nat_tests)

-- an entry that is as far ahead of the first one as its number is has this number, and no other has
pub found_ahead : (k n ahead : ℕ) (entries : List HistoryEntry) → IsRun k entries → length entries ≤ 8192 → n < 65536 → ahead ≡ (n + 65536 - k % 65536) % 65536 → ahead < length entries →
    first_place (numbered_as n) entries ≡ Some (k + ahead)
found_ahead k n ahead [] run room small is below = absurd (omega arith)
found_ahead k n ahead (entry ∷ entries) run room small is below =
    let got = slice_get-get_or (entry ∷ entries) ahead entry below in
    first_place_at (numbered_as n) k ahead _ (entry ∷ entries) run got
    (equal _ n (let at = (run ahead _ got).0 in omega arith))
    (λ j y l e. apart _ n (λ same. let at = (run j y e).0 in omega arith))

pub none_ahead : (k n ahead : ℕ) (entries : List HistoryEntry) → IsRun k entries → length entries ≤ 8192 → n < 65536 → ahead ≡ (n + 65536 - k % 65536) % 65536 → length entries ≤ ahead →
    first_place (numbered_as n) entries ≡ None
none_ahead k n ahead entries run room small is above =
    ap (option_map (λ (entry : HistoryEntry). entry.place))
    (find_none (numbered_as n) entries (λ j y e. let within = slice_get_within entries j y e in apart _ n (λ same. let at = (run j y e).0 in omega arith)))

abbrev marked_one : HistoryEntry → Bool
marked_one entry = entry.marked

is_entry : (o : Option HistoryEntry) → is_marked o ≡ true → (x : HistoryEntry) × (o ≡ Some x) × (x.marked ≡ true)
is_entry None e = absurd (cc)
is_entry (Some x) e = (x, refl, e)

unmarked : (o : Option HistoryEntry) (x : HistoryEntry) → o ≡ Some x → is_marked o ≡ false → x.marked ≡ false
unmarked o x e none = ap is_marked (sym e) ∙ none

pub marked_within : (entries : List HistoryEntry) (i : ℕ) → is_marked (slice_get entries i) ≡ true → i < length entries
marked_within entries i e = let it = is_entry (slice_get entries i) e in slice_get_within entries i it.0 it.1

pub least_at : (k i : ℕ) (entries : List HistoryEntry) → IsRun k entries → is_marked (slice_get entries i) ≡ true → ((j : ℕ) → j < i → is_marked (slice_get entries j) ≡ false) →
    first_place marked_one entries ≡ Some (k + i)
least_at k i entries run marked before =
    let it = is_entry (slice_get entries i) marked in
    first_place_at marked_one k i it.0 entries run it.1 it.2 (λ j y l e. unmarked (slice_get entries j) y e (before j l))

pub least_none : (entries : List HistoryEntry) → ((j : ℕ) → j < length entries → is_marked (slice_get entries j) ≡ false) → first_place marked_one entries ≡ None
least_none entries none =
    ap (option_map (λ (entry : HistoryEntry). entry.place)) (find_none marked_one entries (λ j y e. unmarked (slice_get entries j) y e (none j (slice_get_within entries j y e))))

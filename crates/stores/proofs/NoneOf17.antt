-- Of 17 numbers, one behind the other, none has an entry: what `has_none_of_17` answers, by what `find` does.
use Rattle.std.proofs.Common.{◌≡◌, ◌↔◌, ℕ, ◌+◌, ◌-◌, ◌%◌, ◌<◌, ◌≤◌, ◌==◌, Bool, true, false, cond, nat_lt, is_none, List, [], ◌∷◌, length, Some, None, ap, sym, ◌∙◌, refl, arith, inl, inr}
use Rattle.std.specs.Option.{option_map}
use Rattle.std.specs.List.{find}
use Rattle.std.proofs.lemmas.Bool.{cond_both, cases_Bool, ltb-true, ltb-false}
use Rattle.std.proofs.lemmas.Bool.Decides.{nat_tests}
use Rattle.std.proofs.lemmas.Option.{none-some}
use Rattle.places.specs.Place.{number}
use Rattle.stores.specs.declared.entry.HistoryEntry.{HistoryEntry}
use Rattle.stores.specs.Past.{Past, IsRun, first_place, numbered, is_of_17, has_none_of_17}
use Rattle.stores.proofs.EntryIndex.{found_ahead, none_ahead}

abbrev has_number : ℕ → HistoryEntry → Bool
has_number n entry = number entry.place == n

apart : (a b : ℕ) → (a ≡ b → ⊥) → (a == b) ≡ false
apart a b h = grind (arith, nat_tests)

equal : (a b : ℕ) → a ≡ b → (a == b) ≡ true
equal a b h = grind (arith, nat_tests)

tail_none : (test : HistoryEntry → Bool) (x : HistoryEntry) (entries : List HistoryEntry) → first_place test (x ∷ entries) ≡ None → first_place test entries ≡ None
tail_none test x entries =
    cond_both (test x) (Some x) (find test entries) (λ r. option_map (λ (entry : HistoryEntry). entry.place) r ≡ None → first_place test entries ≡ None)
    (λ _ never. absurd (none-some x.place (sym never)))
    (λ _ rest. rest)

not_none : (test : HistoryEntry → Bool) (x : HistoryEntry) (entries : List HistoryEntry) → test x ≡ true → first_place test (x ∷ entries) ≡ None → ⊥
not_none test x entries passes none =
    none-some x.place (sym (sym (ap (λ b. option_map (λ (entry : HistoryEntry). entry.place) (cond b (Some x) (find test entries))) passes) ∙ none))

module _ (first : ℕ) (small : first < 65536) where
  abbrev near : HistoryEntry → Bool
  near entry = is_of_17 first (number entry.place)

  -- none of the 17 numbers is found
  abbrev NoneFound : List HistoryEntry → Type 0
  NoneFound entries = (i : ℕ) → i ≤ 16 → first_place (has_number ((first + i) % 65536)) entries ≡ None

  not_number : (n i : ℕ) → i ≤ 16 → is_of_17 first n ≡ false → (n == (first + i) % 65536) ≡ false
  not_number n i within far =
      let above = ltb-false _ _ far in
      apart n ((first + i) % 65536) (λ same. omega arith)

  is_number : (n : ℕ) → n < 65536 → is_of_17 first n ≡ true → (i : ℕ) × (i ≤ 16) × ((n == (first + i) % 65536) ≡ true)
  is_number n below close =
      let within = ltb-true _ _ close in
      ((n + 65536 - first) % 65536, omega arith, equal n ((first + (n + 65536 - first) % 65536) % 65536) (omega arith))

  none_found : (entries : List HistoryEntry) → is_none (first_place near entries) ≡ true → NoneFound entries
  none_found [] none i within = refl
  none_found (x ∷ entries) none i within = by (λ rest. none_found entries rest i within) (near x) refl none
    where
      by : (is_none (first_place near entries) ≡ true → first_place (has_number ((first + i) % 65536)) entries ≡ None) → (b : Bool) → near x ≡ b → is_none (option_map (λ (entry : HistoryEntry). entry.place) (cond b (Some x) (find near entries))) ≡ true →
          first_place (has_number ((first + i) % 65536)) (x ∷ entries) ≡ None
      by later true close none = absurd (let never : false ≡ true = none in cc)
      by later false far none =
          ap (λ b. option_map (λ (entry : HistoryEntry). entry.place) (cond b (Some x) (find (has_number ((first + i) % 65536)) entries))) (not_number (number x.place) i within far)
          ∙ later none

  found_none : (entries : List HistoryEntry) → NoneFound entries → is_none (first_place near entries) ≡ true
  found_none [] none = refl
  found_none (x ∷ entries) none =
      by (found_none entries (λ i within. tail_none (has_number ((first + i) % 65536)) x entries (none i within))) (near x) refl
    where
      by : is_none (first_place near entries) ≡ true → (b : Bool) → near x ≡ b → is_none (option_map (λ (entry : HistoryEntry). entry.place) (cond b (Some x) (find near entries))) ≡ true
      by later true close =
          let it = is_number (number x.place) (omega arith) close in
          absurd (not_none (has_number ((first + it.0) % 65536)) x entries it.2 (none it.0 it.1))
      by later false far = later

  one_found : (entries : List HistoryEntry) (i p : ℕ) → i ≤ 16 → first_place (has_number ((first + i) % 65536)) entries ≡ Some p → is_none (first_place near entries) ≡ false
  one_found entries i p within found = elim (cases_Bool (is_none (first_place near entries))) [
    | inl none ↦ absurd (none-some p (sym (none_found entries none i within) ∙ found))
    | inr e ↦ e
  ]

  -- entries one behind the other, of which the oldest lies so far behind the first number
  module _ (k ahead : ℕ) (entries : List HistoryEntry) (run : IsRun k entries) (room : length entries ≤ 8192) (is : ahead ≡ (first + 65536 - k % 65536) % 65536) where
    all_behind : length entries ≤ ahead → ahead < 65536 - 16 → is_none (first_place near entries) ≡ true
    all_behind above below = found_none entries (λ i within. none_ahead k ((first + i) % 65536) (ahead + i) entries run room (omega arith) (omega arith) (omega arith))

    pub first_is_one : ahead < length entries → is_none (first_place near entries) ≡ false
    first_is_one below =
        one_found entries 0 (k + ahead) (omega arith) (found_ahead k ((first + 0) % 65536) ahead entries run room (omega arith) (omega arith) below)

    comes_round : 0 < length entries → 65536 - 16 ≤ ahead → is_none (first_place near entries) ≡ false
    comes_round some above =
        one_found entries (65536 - ahead) (k + 0) (omega arith) (found_ahead k ((first + (65536 - ahead)) % 65536) 0 entries run room (omega arith) (omega arith) some)

    -- what is left to tell where the first number is none of theirs
    pub none_but_round : 0 < length entries → length entries ≤ ahead → nat_lt ahead (65536 - 16) ≡ is_none (first_place near entries)
    none_but_round some above = elim (cases_Bool (nat_lt ahead (65536 - 16))) [
      | inl below ↦ below ∙ sym (all_behind above (ltb-true _ _ below))
      | inr round ↦ round ∙ sym (comes_round some (ltb-false _ _ round))
    ]

pub none_of_17 : (h : Past) (first : ℕ) → first < 65536 → (has_none_of_17 h first ≡ true) ↔ ((i : ℕ) → i ≤ 16 → numbered h ((first + i) % 65536) ≡ None)
none_of_17 h first small = (none_found first small h.entries, found_none first small h.entries)

-- Entries that are read by their numbers: what is read, replaced and added.
use Rattle.std.proofs.Common.{◌≡◌, ◌≢◌, ℕ, zero, suc, ◌<◌, ◌≤◌, ◌++◌, List, [], ◌∷◌, length, get_or, slice_get, slice_set, Option, Some, None, IsSomeAnd, subst, ap, sym, ◌∙◌, refl, arith, length-set}
use Rattle.std.specs.Option.{option_map}
use Rattle.std.proofs.lemmas.List.{length-map, map-append, get_or-set_same, get_or-set_other, get_or_append_left}
use Rattle.std.proofs.lemmas.Option.{same_Some, slice_get-map, slice_get_read, get_or_from_slice_get}
use Rattle.circular_buffer.specs.Buffer.{Buffer, buffer}
use Rattle.rtpwire.specs.Content.{blank_content}
use Rattle.stores.specs.declared.entry.HistoryEntry.{HistoryEntry}
use Rattle.stores.specs.Past.{fresh}
use Rattle.stores.specs.Numbers.{times, AreNumbers}
use Rattle.stores.specs.Entries.{entry_in, entries_in, AreEntries}
use Rattle.stores.proofs.Numbers.{times_found, times_self, number_below, number_once, last_below, last_alone, no_numbers}

-- as many as numbers
pub entry_count : (list : List HistoryEntry) (numbers : List ℕ) → length (entries_in list numbers) ≡ length numbers
entry_count list numbers = length-map numbers (entry_in list)

-- what is read of other entries that these numbers name too
same_entries : (list other : List HistoryEntry) (numbers : List ℕ) → ((n : ℕ) → 0 < times n numbers → entry_in other n ≡ entry_in list n) → entries_in other numbers ≡ entries_in list numbers
unfolding times
same_entries list other [] same = refl
same_entries list other (n ∷ numbers) same =
    let here : entry_in other n ≡ entry_in list n = same n (times_found (n ∷ numbers) 0 n refl) in
    let rest : entries_in other numbers ≡ entries_in list numbers = same_entries list other numbers (λ m some. same m (omega arith)) in
    cc

-- a change of an entry that they don't name
entries_other : (list : List HistoryEntry) (n : ℕ) (x : HistoryEntry) (numbers : List ℕ) → times n numbers ≡ 0 → entries_in (slice_set list n x) numbers ≡ entries_in list numbers
entries_other list n x numbers none =
    same_entries list (slice_set list n x) numbers (λ m some. get_or-set_other list n m x (fresh 0 blank_content) (λ same. absurd (let at = ap (λ k. times k numbers) same in omega arith)))

-- an entry more
pub entries_longer : (list : List HistoryEntry) (x : HistoryEntry) (numbers : List ℕ) → AreNumbers numbers (length list) → entries_in (list ++ x ∷ []) numbers ≡ entries_in list numbers
entries_longer list x numbers are =
    same_entries list (list ++ x ∷ []) numbers (λ m some. get_or_append_left list (x ∷ []) (fresh 0 blank_content) m (number_below numbers (length list) m are some))

-- a change of the one that the number at an index names
entries_set : (list : List HistoryEntry) (numbers : List ℕ) (i n : ℕ) (x : HistoryEntry) → n < length list → times n numbers ≤ 1 → slice_get numbers i ≡ Some n
    → entries_in (slice_set list n x) numbers ≡ slice_set (entries_in list numbers) i x
unfolding times
entries_set list [] i n x there once found = absurd cc
entries_set list (m ∷ numbers) zero n x there once found =
    let same : m ≡ n = same_Some m n found in
    let self = ap (λ k. times n (k ∷ [])) same ∙ times_self n in
    let rest : entries_in (slice_set list n x) numbers ≡ entries_in list numbers = entries_other list n x numbers (omega arith) in
    let here : entry_in (slice_set list n x) m ≡ x = ap (entry_in (slice_set list n x)) same ∙ get_or-set_same list n x (fresh 0 blank_content) there in
    cc
entries_set list (m ∷ numbers) (suc i) n x there once found =
    let some = times_found numbers i n found in
    let other : m ≢ n = λ same. absurd (let self = ap (λ k. times n (k ∷ [])) same ∙ times_self n in omega arith) in
    let here : entry_in (slice_set list n x) m ≡ entry_in list m = get_or-set_other list n m x (fresh 0 blank_content) other in
    let rest : entries_in (slice_set list n x) numbers ≡ slice_set (entries_in list numbers) i x = entries_set list numbers i n x there (omega arith) found in
    cc

-- the entry of the last number is written
pub entries_last : (list : List HistoryEntry) (numbers : List ℕ) (n : ℕ) (x : HistoryEntry) → AreNumbers (numbers ++ n ∷ []) (length list)
    → entries_in (slice_set list n x) (numbers ++ n ∷ []) ≡ entries_in list numbers ++ x ∷ []
entries_last list numbers n x are =
    map-append (entry_in (slice_set list n x)) numbers (n ∷ [])
    ∙ ap (λ (xs : List HistoryEntry). xs ++ entry_in (slice_set list n x) n ∷ []) (entries_other list n x numbers (last_alone numbers n (length list) are))
    ∙ ap (λ (y : HistoryEntry). entries_in list numbers ++ y ∷ []) (get_or-set_same list n x (fresh 0 blank_content) (last_below numbers n (length list) are))

-- no entries
pub no_entries : (order : Buffer ℕ) (list : List HistoryEntry) (capacity most : ℕ) → order ≡ buffer [] capacity → list ≡ [] → 0 < capacity → capacity ≤ 8192 → capacity ≤ most → AreEntries order list most
no_entries order list capacity most is none nonzero limit enough =
    let size = ap (λ (b : Buffer ℕ). b.capacity) is in
    let items = ap (λ (b : Buffer ℕ). b.items) is in
    let few = ap length none in
    record {
      numbers = subst (λ ns. AreNumbers ns (length list)) (sym items) (subst (λ k. AreNumbers [] k) (sym few) no_numbers);
      room = omega (arith, size, few);
      nonzero = omega (arith, size, nonzero);
      limit = omega (arith, size, limit);
      reserved = omega (arith, size, enough);
    }

module _ (order : Buffer ℕ) (list : List HistoryEntry) (most : ℕ) (old : Buffer HistoryEntry) (are : AreEntries order list most) (view : buffer (entries_in list order.items) order.capacity ≡ old) where
  -- the number at an index is that of an entry
  pub number_known : (i n : ℕ) → slice_get order.items i ≡ Some n → n < length list
  number_known i n found = number_below order.items (length list) n are.numbers (times_found order.items i n found)

  -- the entry that is read
  pub entry_read : (i n : ℕ) (x : HistoryEntry) → slice_get order.items i ≡ Some n → x ≡ get_or list n x → slice_get old.items i ≡ Some x
  entry_read i n x found read =
      let there = number_known i n found in
      let here : entry_in list n ≡ x = get_or_from_slice_get list n x (fresh 0 blank_content) (slice_get_read list (length list) n x refl there read) in
      ap (λ (b : Buffer HistoryEntry). slice_get b.items i) (sym view)
      ∙ slice_get-map (entry_in list) order.items i ∙ ap (option_map (entry_in list)) found ∙ ap Some here

  -- an entry is changed where it lies
  pub change_kept : (n : ℕ) (x : HistoryEntry) → AreEntries order (slice_set list n x) most
  change_kept n x =
      let long = length-set list n x in
      let room = are.room in
      record {
        numbers = subst (λ k. AreNumbers order.items k) (sym long) are.numbers;
        room = omega (arith, long, room);
        nonzero = are.nonzero;
        limit = are.limit;
        reserved = are.reserved;
      }

  pub change_seen : (change : HistoryEntry → HistoryEntry) (i n : ℕ) (x : HistoryEntry) → slice_get order.items i ≡ Some n → x ≡ get_or list n x
      → IsSomeAnd (slice_get old.items i) (λ e. buffer (entries_in (slice_set list n (change x)) order.items) order.capacity ≡ buffer (slice_set old.items i (change e)) old.capacity)
  change_seen change i n x found read =
      let set = entries_set list order.items i n (change x) (number_known i n found) (number_once order.items (length list) n are.numbers) found in
      let changed : buffer (entries_in (slice_set list n (change x)) order.items) order.capacity ≡ buffer (slice_set old.items i (change x)) old.capacity =
      ap (λ (xs : List HistoryEntry). buffer xs order.capacity) set ∙ ap (λ (b : Buffer HistoryEntry). buffer (slice_set b.items i (change x)) b.capacity) view in
      subst (λ (o : Option HistoryEntry). IsSomeAnd o (λ e. buffer (entries_in (slice_set list n (change x)) order.items) order.capacity ≡ buffer (slice_set old.items i (change e)) old.capacity)) (sym (entry_read i n x found read)) changed

some_and : (o : Option HistoryEntry) (P : HistoryEntry → Type 0) → IsSomeAnd o P → (x : HistoryEntry) × (o ≡ Some x) × P x
some_and None P some = absurd some
some_and (Some x) P some = (x, refl, some)

-- the entry that was changed
pub entry_changed : (change : HistoryEntry → HistoryEntry) (i : ℕ) (old new : Buffer HistoryEntry) → IsSomeAnd (slice_get old.items i) (λ e. new ≡ buffer (slice_set old.items i (change e)) old.capacity)
    → (x : HistoryEntry) × (slice_get old.items i ≡ Some x) × (new ≡ buffer (slice_set old.items i (change x)) old.capacity)
entry_changed change i old new some = some_and (slice_get old.items i) (λ e. new ≡ buffer (slice_set old.items i (change e)) old.capacity) some

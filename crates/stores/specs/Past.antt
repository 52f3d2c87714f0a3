-- What a history is to its callers: the latest entries, one for each place, the oldest first.
use Rattle.std.specs.Prelude.{◌≡◌, ℕ, ◌+◌, ◌-◌, ◌%◌, ◌^◌, ◌<◌, ◌≤◌, ◌==◌, nat_lt, is_none, Bool, true, false, List, [], ◌∷◌, ◌++◌, length, map, drop, slice_get, Option, Some, if◌then◌else◌}
use Rattle.std.specs.Option.{ForSome, option_map}
use Rattle.std.specs.List.{find}
use Rattle.places.specs.Place.{number}
use Rattle.rtpwire.specs.declared.content.Content.{Content}
use Rattle.stores.specs.declared.entry.HistoryEntry.{HistoryEntry}

pub record Past : Type 0 where
  pub entries : List HistoryEntry
  pub capacity : ℕ  -- how many entries there may be

-- the entries are those of the places from k on, one after another, none of them repeated more than 255 times
abbrev pub IsRun : ℕ → List HistoryEntry → Type 0
IsRun k entries = (i : ℕ) (entry : HistoryEntry) → slice_get entries i ≡ Some entry → (entry.place ≡ k + i) × (entry.repeats ≤ 255)

-- the place of the oldest entry
abbrev pub first_of : Past → Option ℕ
first_of h = option_map (λ (entry : HistoryEntry). entry.place) (slice_get h.entries 0)

-- the place that the next entry will have
abbrev pub next_of : Past → Option ℕ
next_of h = option_map (λ k. k + length h.entries) (first_of h)

-- What is true of every history. Places lie below 2 ^ 48.
pub record IsPast (h : Past) : Type 0 where
  pub room : length h.entries ≤ h.capacity
  pub nonzero : 0 < h.capacity
  pub limit : h.capacity ≤ 8192
  pub run : ForSome (first_of h) (λ k. IsRun k h.entries)
  pub ends : ForSome (next_of h) (λ next. next ≤ 2 ^ 48)

-- a history before its first entry
abbrev pub empty_past : ℕ → Past
empty_past capacity = record { entries = []; capacity = capacity }

-- the entry of the place q, if there is one
abbrev pub entry_of : List HistoryEntry → ℕ → Option HistoryEntry
entry_of entries q = find (λ (entry : HistoryEntry). entry.place == q) entries

abbrev pub entry_at : Past → ℕ → Option HistoryEntry
entry_at h q = entry_of h.entries q

-- the place of the first entry that passes a test
abbrev pub first_place : (HistoryEntry → Bool) → List HistoryEntry → Option ℕ
first_place test entries = option_map (λ (entry : HistoryEntry). entry.place) (find test entries)

-- the place of the entry with this sequence number, if there is one
abbrev pub numbered : Past → ℕ → Option ℕ
numbered h n = first_place (λ (entry : HistoryEntry). number entry.place == n) h.entries

-- the number n is the first one or one of the 16 after it, modulo 65536
abbrev pub is_of_17 : (first n : ℕ) → Bool
is_of_17 first n = nat_lt ((n + 65536 - first) % 65536) 17

-- no entry has one of these 17 sequence numbers
abbrev pub has_none_of_17 : Past → (first : ℕ) → Bool
has_none_of_17 h first = is_none (first_place (λ (entry : HistoryEntry). is_of_17 first (number entry.place)) h.entries)

-- the least place whose entry is marked
abbrev pub least_marked : Past → Option ℕ
least_marked h = first_place (λ (entry : HistoryEntry). entry.marked) h.entries

-- an entry that was just sent
abbrev pub fresh : ℕ → Content → HistoryEntry
fresh place content = record { place = place; content = content; repeats = 0; marked = false }

-- the history after a push: the last entries, the new one among them, as many as there may be
abbrev pub pushed : Past → ℕ → Content → Past
pushed h place content =
    record { entries = drop (length h.entries + 1 - h.capacity) (h.entries ++ fresh place content ∷ []); capacity = h.capacity }

-- the entries after a change of that of the place q
abbrev pub with_change : (HistoryEntry → HistoryEntry) → ℕ → List HistoryEntry → List HistoryEntry
with_change change q entries = map (λ (entry : HistoryEntry). if entry.place == q then change entry else entry) entries

abbrev pub changed_at : (HistoryEntry → HistoryEntry) → Past → ℕ → Past
changed_at change h q = record { entries = with_change change q h.entries; capacity = h.capacity }

-- an entry that is marked
abbrev pub marked : HistoryEntry → HistoryEntry
marked entry = record { place = entry.place; content = entry.content; repeats = entry.repeats; marked = true }

abbrev pub marked_at : Past → ℕ → Past
marked_at h q = changed_at marked h q

-- an entry whose mark was taken away, if it had one: what it carried and how often it was repeated stay
abbrev pub unmarked : HistoryEntry → HistoryEntry
unmarked entry = record { place = entry.place; content = entry.content; repeats = entry.repeats; marked = false }

abbrev pub unmarked_at : Past → ℕ → Past
unmarked_at h q = changed_at unmarked h q

-- one more retransmission may be counted
abbrev pub CanBeRepeated : HistoryEntry → Type 0
CanBeRepeated entry = entry.repeats < 255

-- an entry after one more retransmission, its mark taken away
abbrev pub repeated : HistoryEntry → HistoryEntry
repeated entry = record { place = entry.place; content = entry.content; repeats = entry.repeats + 1; marked = false }

abbrev pub repeated_at : Past → ℕ → Past
repeated_at h q = changed_at repeated h q

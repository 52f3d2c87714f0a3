-- What feedback leaves of a history, said by the list of the numbers that were marked for so far. The private
-- calls promise it to one another; callers see `Marks`.
use Rattle.std.specs.Prelude.{◌≡◌, ℕ, Bool, nat_lt, List, length, Option, Some, None, if◌then◌else◌}
use Rattle.std.specs.List.{filter, flat_map, range_with_len}
use Rattle.std.specs.Option.{option_map}
use Rattle.places.specs.Among.{is_among}
use Rattle.places.specs.Place.{number}
use Rattle.fbwire.specs.Nack.{Nack, numbers_of}
use Rattle.stores.specs.declared.entry.HistoryEntry.{HistoryEntry}
use Rattle.stores.specs.Past.{Past, first_of, next_of, entry_at, marked}
use Rattle.sender.specs.History.{becomes_marked}

-- an entry below the limit is marked
abbrev pub marked_below : (repeats : ℕ) → HistoryEntry → HistoryEntry
marked_below repeats entry = if nat_lt entry.repeats repeats then marked entry else entry

abbrev pub marked_if : Bool → (repeats : ℕ) → Option HistoryEntry → Option HistoryEntry
marked_if named repeats entry = if named then option_map (marked_below repeats) entry else entry

-- the place from which on there are entries
abbrev pub start_at : Option ℕ → ℕ
start_at None = 0
start_at (Some k) = k

-- the places that became marked, in rising order
abbrev pub newly_marked : Past → Past → List ℕ
newly_marked old new = filter (λ q. becomes_marked (entry_at old q) (entry_at new q)) (range_with_len (start_at (first_of old)) old.capacity)

pub record MarksNumbers (repeats : ℕ) (numbers : List ℕ) (old : Past) (count : ℕ) (new : Past) : Type 0 where
  pub first : first_of new ≡ first_of old
  pub next : next_of new ≡ next_of old
  pub capacity : new.capacity ≡ old.capacity
  pub entries : (q : ℕ) → entry_at new q ≡ marked_if (is_among numbers (number q)) repeats (entry_at old q)
  pub counted : count ≡ length (newly_marked old new)

-- the numbers of all NACKs, in their order
abbrev pub all_numbers : List Nack → List ℕ
all_numbers nacks = flat_map (λ (nack : Nack). numbers_of nack.pairs) nacks

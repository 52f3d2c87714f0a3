-- A history read place by place: the entry that each place has, and what the calls change there.
use Rattle.std.specs.Prelude.{◌≡◌, ◌≢◌, ℕ, ◌+◌, ◌-◌, ◌<◌, ◌≤◌, ◌==◌, Bool, true, false, Option, Some, None, IsSome, IsSomeAnd, MatchOption, if◌then◌else◌, nat_lt}
use Rattle.std.specs.Option.{option_map}
use Rattle.places.specs.Place.{number}
use Rattle.rtpwire.specs.declared.content.Content.{Content}
use Rattle.stores.specs.declared.entry.HistoryEntry.{HistoryEntry}
use Rattle.stores.specs.Past.{Past, first_of, next_of, entry_at, numbered, least_marked, fresh}

-- q is one of the places from the oldest entry's up to before the next one
abbrev pub IsKept : Past → ℕ → Type 0
IsKept h q = IsSomeAnd (first_of h) (λ k. k ≤ q) × IsSomeAnd (next_of h) (λ next. q < next)

-- A content was pushed at the place p: its entry is there, those of the places that are now more than the
-- capacity below the next one are gone, and the others are as they were.
pub record Pushes (old new : Past) (p : ℕ) (content : Content) : Type 0 where
  pub next : next_of new ≡ Some (p + 1)
  pub entries : (q : ℕ) → entry_at new q ≡ (if q == p then Some (fresh p content) else (if nat_lt q (p + 1 - old.capacity) then None else entry_at old q))
  pub capacity : new.capacity ≡ old.capacity

-- the entry of the place p was changed, and nothing else
pub record Changes (change : HistoryEntry → HistoryEntry) (old new : Past) (p : ℕ) : Type 0 where
  pub first : first_of new ≡ first_of old
  pub next : next_of new ≡ next_of old
  pub entries : (q : ℕ) → entry_at new q ≡ (if q == p then option_map change (entry_at old q) else entry_at old q)
  pub capacity : new.capacity ≡ old.capacity

-- the place that `find` answers has an entry and this sequence number, or no place that has an entry has it
abbrev pub Finds : Past → ℕ → Type 0
Finds h n = MatchOption (numbered h n) ((q : ℕ) → IsSome (entry_at h q) → number q ≢ n) (λ p. (number p ≡ n) × IsSome (entry_at h p))

-- the entry is there and marked
abbrev pub is_marked : Option HistoryEntry → Bool
is_marked None = false
is_marked (Some entry) = entry.marked

-- the place that `least_marked` answers has a marked entry, and no place below it has, or none has
abbrev pub FindsLeast : Past → Type 0
FindsLeast h =
    MatchOption (least_marked h) ((q : ℕ) → is_marked (entry_at h q) ≡ false)
    (λ p. (is_marked (entry_at h p) ≡ true) × ((q : ℕ) → q < p → is_marked (entry_at h q) ≡ false))

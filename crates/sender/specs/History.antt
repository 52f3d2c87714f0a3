-- The sender over places: what it keeps of what it sent, and how sending, feedback and retransmitting change
-- that. Its map is a function from places, and nothing has a bound. The rules are this project's own; a
-- retransmission's sequence number rises by one, modulo 65536 (RFC 3550, section 5.1; RFC 4588, section 4).
use Rattle.std.specs.Prelude.{◌≡◌, ◌≢◌, ℕ, ◌+◌, ◌%◌, ◌<◌, ◌≤◌, Bool, true, false, ◌&&◌, not, List, length, Option, Some, None, IsSomeAnd}
use Rattle.std.specs.Option.{option_map}
use Rattle.places.specs.Place.{number}
use Rattle.rtpwire.specs.declared.content.Content.{Content}
use Rattle.stores.specs.declared.entry.HistoryEntry.{HistoryEntry}
use Rattle.stores.specs.PastByPlace.{is_marked}
use Rattle.stores.specs.PlaceLists.{Lists}

pub record SenderState : Type 0 where
  pub next : ℕ  -- the place that the next content gets
  pub repair : ℕ  -- the sequence number that the next retransmission gets
  pub entries : ℕ → Option HistoryEntry

-- a sender that sent nothing: its first place is one cycle of 65536 above its first sequence number
abbrev pub new_history : (first repair_first : ℕ) → SenderState
new_history first repair_first = record { next = 65536 + first; repair = repair_first; entries = λ q. None }

-- the entry of a content that was just sent: neither repeated nor marked
abbrev pub sent_entry : (place : ℕ) → Content → HistoryEntry
sent_entry place content = record { place = place; content = content; repeats = 0; marked = false }

-- an entry that is to be retransmitted
abbrev pub to_repeat : HistoryEntry → HistoryEntry
to_repeat entry = record entry { marked = true }

-- an entry that was retransmitted once more, and is not to be again
abbrev pub once_more : HistoryEntry → HistoryEntry
once_more entry = record entry { repeats = entry.repeats + 1; marked = false }

-- A content is sent: the next place has its entry, neither repeated nor marked. There is room for so many
-- entries, so those of places further below go, with their marks.
pub record Sends (room : ℕ) (old : SenderState) (content : Content) (new : SenderState) : Type 0 where
  pub next : new.next ≡ old.next + 1
  pub repair : new.repair ≡ old.repair
  pub sent : new.entries old.next ≡ Some (sent_entry old.next content)
  pub gone : (q : ℕ) → q + room < new.next → new.entries q ≡ None
  pub others : (q : ℕ) → q ≢ old.next → new.next ≤ q + room → new.entries q ≡ old.entries q

-- the entry is there, and was retransmitted fewer times than the limit
abbrev pub CanBeMarked : (repeats : ℕ) → Option HistoryEntry → Type 0
CanBeMarked repeats entry = IsSomeAnd entry (λ e. e.repeats < repeats)

-- the entry is marked, and was not before
abbrev pub becomes_marked : (before after : Option HistoryEntry) → Bool
becomes_marked before after = is_marked after && not (is_marked before)

-- Feedback names a set of sequence numbers: the entry of each, if there is one and it is below the limit, is
-- marked, whether it was before or not. The count is of the places that became marked.
pub record Marks (repeats : ℕ) (named : ℕ → Type 0) (old : SenderState) (count : ℕ) (new : SenderState) : Type 0 where
  pub next : new.next ≡ old.next
  pub repair : new.repair ≡ old.repair
  pub marks : (q : ℕ) → named (number q) → CanBeMarked repeats (old.entries q) → new.entries q ≡ option_map to_repeat (old.entries q)
  pub others : (q : ℕ) → (named (number q) → CanBeMarked repeats (old.entries q) → ⊥) → new.entries q ≡ old.entries q
  pub places : List ℕ
  pub listed : Lists places (λ q. becomes_marked (old.entries q) (new.entries q))
  pub counted : count ≡ length places

-- The least marked place is retransmitted: its entry's mark goes, and its repeats rise by one. (An entry keeps
-- its content.)
pub record Repairs (old : SenderState) (place : ℕ) (entry : HistoryEntry) (new : SenderState) : Type 0 where
  pub next : new.next ≡ old.next
  pub repair : new.repair ≡ (old.repair + 1) % 65536
  pub was : old.entries place ≡ Some entry
  pub marked : entry.marked ≡ true
  pub least : (q : ℕ) → q < place → is_marked (old.entries q) ≡ false
  pub counted : new.entries place ≡ Some (once_more entry)
  pub others : (q : ℕ) → q ≢ place → new.entries q ≡ old.entries q

-- the entry is that of the least marked place
pub record IsLeastMarked (old : SenderState) (place : ℕ) (entry : HistoryEntry) : Type 0 where
  pub was : old.entries place ≡ Some entry
  pub marked : entry.marked ≡ true
  pub least : (q : ℕ) → q < place → is_marked (old.entries q) ≡ false

-- an entry that is not to be retransmitted, as often as it was before
abbrev pub not_to_repeat : HistoryEntry → HistoryEntry
not_to_repeat entry = record entry { marked = false }

-- The least marked place is passed over: its entry's mark goes, and nothing else changes, neither how often it was
-- retransmitted nor the number of the next retransmission.
pub record PassesOver (old : SenderState) (place : ℕ) (entry : HistoryEntry) (new : SenderState) : Type 0 where
  pub next : new.next ≡ old.next
  pub repair : new.repair ≡ old.repair
  pub least : IsLeastMarked old place entry
  pub passed : new.entries place ≡ Some (not_to_repeat entry)
  pub others : (q : ℕ) → q ≢ place → new.entries q ≡ old.entries q

-- no place is marked
abbrev pub NoneMarked : SenderState → Type 0
NoneMarked h = (q : ℕ) → is_marked (h.entries q) ≡ false

-- How a ring history keeps its entries: in a list, where they stay, and in a ring their numbers in the list, the oldest first.
use Rattle.std.specs.Prelude.{ℕ, ◌<◌, ◌≤◌, List, length, map, get_or}
use Rattle.circular_buffer.specs.Buffer.{Buffer}
use Rattle.rtpwire.specs.Content.{blank_content}
use Rattle.stores.specs.declared.entry.HistoryEntry.{HistoryEntry}
use Rattle.stores.specs.Numbers.{AreNumbers}
use Rattle.stores.specs.Past.{fresh}

-- the entry with this number; each number that the ring has is that of an entry
abbrev pub entry_in : List HistoryEntry → ℕ → HistoryEntry
entry_in list number = get_or list number (fresh 0 blank_content)

abbrev pub entries_in : List HistoryEntry → List ℕ → List HistoryEntry
entries_in list numbers = map (entry_in list) numbers

-- What is true of the entries of every ring history: the ring has the number of each entry once. `most` is how many entries
-- there is memory for.
pub record AreEntries (order : Buffer ℕ) (list : List HistoryEntry) (most : ℕ) : Type 0 where
  pub numbers : AreNumbers order.items (length list)
  pub room : length list ≤ order.capacity
  pub nonzero : 0 < order.capacity
  pub limit : order.capacity ≤ 8192
  pub reserved : order.capacity ≤ most

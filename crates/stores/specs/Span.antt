-- What a window is to its callers: a cursor, and one slot for each place from the cursor to the highest.
use Rattle.std.specs.Prelude.{◌≡◌, ℕ, ◌+◌, ◌-◌, ◌^◌, ◌<◌, ◌≤◌, List, [], length, drop, slice_get, Option, Some, None}
use Rattle.std.specs.Option.{ForSome, ForNone, option_map}
use Rattle.circular_buffer.specs.Buffer.{Buffer}
use Rattle.stores.specs.declared.slot.Slot.{Slot}

pub record Span : Type 0 where
  pub cursor : Option ℕ  -- the next place to play; none before a window was started, by its first place or by beginning
  pub slots : List Slot  -- that of the cursor first
  pub capacity : ℕ  -- how many slots there may be

-- What is true of every window. Places lie below 2 ^ 48. A started window that has no slots had some, or began above place 0,
-- so its cursor is not 0: it is one past the highest place.
pub record IsSpan (s : Span) : Type 0 where
  pub room : length s.slots ≤ s.capacity
  pub nonzero : 0 < s.capacity
  pub limit : s.capacity ≤ 8192
  pub unstarted : ForNone s.cursor (length s.slots ≡ 0)
  pub started : ForSome s.cursor (λ k. (0 < k + length s.slots) × (k + length s.slots ≤ 2 ^ 48))

-- a window that was not started
abbrev pub empty_span : ℕ → Span
empty_span capacity = record { cursor = None; slots = []; capacity = capacity }

-- a window that began at the place p, before its first place
abbrev pub begun_span : (p capacity : ℕ) → Span
begun_span p capacity = record { cursor = Some p; slots = []; capacity = capacity }

-- the highest place that was taken, and the one before the first in a window that began and took none: the one before the place
-- that follows the slots
abbrev pub highest_of : Span → Option ℕ
highest_of s = option_map (λ k. k + length s.slots - 1) s.cursor

-- the slot of the cursor
abbrev pub front_of : Span → Option Slot
front_of s = slice_get s.slots 0

-- the window after the slot of the cursor was taken out
abbrev pub without_front : Span → Span
without_front s = record { cursor = option_map (λ k. k + 1) s.cursor; slots = drop 1 s.slots; capacity = s.capacity }

-- the window with this cursor and these slots
abbrev pub span_of : Option ℕ → Buffer Slot → Span
span_of cursor slots = record { cursor = cursor; slots = slots.items; capacity = slots.capacity }

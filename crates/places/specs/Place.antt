-- Places, and the one that a sequence number of 16 bits stands for (RFC 3550, appendix A.1). Numbers
-- have no upper bound here: a place is one below 2 ^ 48.
use Rattle.std.specs.Prelude.{◌≡◌, ℕ, ◌+◌, ◌%◌, ◌^◌, ◌<◌, ◌≤◌, ◌⊎◌}

-- the sequence number of a place: its lowest 16 bits
abbrev pub number : ℕ → ℕ
number place = place % 65536

-- How far from the highest place a packet may be, in places: MAX_DROPOUT and MAX_MISORDER of appendix A.1.
abbrev pub reach : ℕ
reach = 16384

-- the two lie less than this distance apart
abbrev pub IsWithin : ℕ → ℕ → ℕ → Type 0
IsWithin distance a b = (a < b + distance) × (b < a + distance)

-- q has the sequence number, and lies within reach of the highest place
pub record IsNear (highest seq q : ℕ) : Type 0 where
  pub same_number : number q ≡ seq
  pub not_above : q < highest + reach
  pub not_below : highest < q + reach

-- A near whole number may lie below 0: from the highest place 5 the number 65535 stands for -1. So the
-- three definitions below count all whole numbers one cycle of 65536 up, which changes no sequence
-- number and no distance. There -1 is 65535, and 0 is 65536.

-- no whole number with this sequence number is near
abbrev pub IsFar : ℕ → ℕ → Type 0
IsFar highest seq = (raised : ℕ) → IsNear (highest + 65536) seq raised → ⊥

-- one cycle up, a whole number that is no place: below 0, or not below 2 ^ 48
abbrev pub IsOutside : ℕ → Type 0
IsOutside raised = (raised < 65536) ⊎ (2 ^ 48 + 65536 ≤ raised)

-- a whole number is near, and it is no place
abbrev pub IsPastEnd : ℕ → ℕ → Type 0
IsPastEnd highest seq = (raised : ℕ) × IsNear (highest + 65536) seq raised × IsOutside raised

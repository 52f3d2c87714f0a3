-- A buffer of which the front is written.
use Rattle.std.specs.Prelude.{◌≡◌, ℕ, ◌≤◌, List, ◌++◌, length, take, drop}

-- items at the front of a buffer, and behind them what was there
abbrev pub in_front : {A : Type 0} → List A → List A → List A
in_front items buffer = items ++ drop (length items) buffer

-- so many items were written at the front of a buffer, and what lies behind them stays
pub record WritesFront {A : Type 0} (count : ℕ) (old new : List A) : Type 0 where
  pub within : count ≤ length new
  pub behind : new ≡ in_front (take count new) old

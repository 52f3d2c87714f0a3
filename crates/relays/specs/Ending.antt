-- When a relay ends by itself. (The rule is this project's own.)
use Rattle.std.specs.Prelude.{ℕ, ◌+◌, Bool, false, ◌&&◌, ◌||◌, nat_le, Option, Some, None}
use Rattle.stores.specs.Asking.{has_come}
use Rattle.relays.specs.declared.bounds.Bounds.{Bounds}
use Rattle.relays.specs.Pacing.{capped}

-- as many packets as are wanted
abbrev pub are_enough : (most : Option ℕ) → (packets : ℕ) → Bool
are_enough None packets = false
are_enough (Some most) packets = nat_le most packets

-- the last of them was two seconds ago: the far side had time to ask
abbrev pub has_lingered : (last : Option ℕ) → (now : ℕ) → Bool
has_lingered None now = false
has_lingered (Some last) now = nat_le (capped (last + 2000)) now

-- A run that sent or played so many packets, the last of them at a moment, is over by these bounds.
abbrev pub is_over : Bounds → (packets : ℕ) → (last : Option ℕ) → (now : ℕ) → Bool
is_over b packets last now = (are_enough b.packets packets && has_lingered last now) || has_come b.until now

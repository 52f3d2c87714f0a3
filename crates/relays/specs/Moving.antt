-- Whether a datagram goes on with the session, as what shows the far side at another address does. (The rule is this project's own.)
use Rattle.std.specs.Prelude.{ℕ, ◌&&◌, Bool, false, nat_lt, Option, Some, None, if◌then◌else◌}
use Rattle.endpoint.specs.Probation.{ahead}

-- the number lies ahead of the highest place, by less than the reach
abbrev pub is_next : (highest : Option ℕ) → (number : Option ℕ) → (reach : ℕ) → Bool
is_next None number reach = false
is_next (Some highest) None reach = false
is_next (Some highest) (Some seq) reach = nat_lt 0 (ahead highest seq) && nat_lt (ahead highest seq) reach

-- the number, if it is one of those
abbrev pub next_of : (highest : Option ℕ) → (number : Option ℕ) → (reach : ℕ) → Option ℕ
next_of highest number reach = if is_next highest number reach then number else None

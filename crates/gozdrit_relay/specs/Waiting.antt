-- Which datagrams wait for room, and for how long.
use Rattle.std.specs.Prelude.{ℕ, ◌+◌, Bool, false, nat_le}
use Rattle.timing.specs.Capped.{capped}
use Rattle.gozdrit_relay.specs.declared.hindrance.Hindrance.{Hindrance}
use Rattle.gozdrit_relay.specs.declared.hindrance.Hindrance.TheVariants.{Full, Unreachable, Oversize, Rejected, Other}

-- what found no room waits, 64 at a time; what can't be sent for another reason does not
abbrev pub is_kept : Hindrance → (waiting : ℕ) → Bool
is_kept Full waiting = nat_le (waiting + 1) 64
is_kept Unreachable waiting = false
is_kept Oversize waiting = false
is_kept Rejected waiting = false
is_kept Other waiting = false

-- for a tenth of a second
abbrev pub waits_until : (now : ℕ) → ℕ
waits_until now = capped (now + 100)

-- The rate of media, as it is measured: the bits that left, each with a weight that is one as it leaves, and falls by a thousandth each
-- millisecond. (The rule is this project's own.)
use Rattle.std.specs.Prelude.{ℕ, ◌+◌, ◌-◌, ◌*◌, ◌/◌, Option, Some, None}
use Rattle.relays.specs.Capping.{capped}
use Rattle.relays.specs.declared.media_rate.MediaRate.{MediaRate}

-- nothing is taken for granted
abbrev pub unmeasured : MediaRate
unmeasured = record { bits = 0; last = None }

-- what is left at a moment of what was measured: less by a thousandth of it for each millisecond since the last packet, and nothing after a second
abbrev pub left_at : (last : Option ℕ) → (bits now : ℕ) → ℕ
left_at None bits now = 0
left_at (Some last) bits now = capped (bits * (1000 - (now - last))) / 1000

abbrev pub measured_at : MediaRate → (now : ℕ) → ℕ
measured_at m now = left_at m.last m.bits now

-- a packet of so many octets leaves
abbrev pub measured_after : MediaRate → (octets now : ℕ) → MediaRate
measured_after m octets now = record { bits = capped (measured_at m now + capped (octets * 8)); last = Some now }

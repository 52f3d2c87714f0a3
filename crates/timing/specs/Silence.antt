-- A silence in which packets were lost, and when they were sent. (The rule is this project's own.)
use Rattle.std.specs.Prelude.{ℕ, ◌-◌, ◌*◌, ◌/◌, ◌&&◌, ◌==◌, Bool, min, nat_le, nat_lt, not, if◌then◌else◌}
use Rattle.timing.specs.Capped.{capped}
use Rattle.timing.specs.declared.silence.Silence.{Silence}

-- so many milliseconds that four packets come in them, of as many a second as its peak has
abbrev pub is_long : Silence → Bool
is_long s = nat_le 4000 (capped (s.length * s.peak))

-- How long before its end the packet of a place that was lost in it was sent: as if all were sent evenly over it, or as fast as at
-- the peak before its end, whichever is shorter.
abbrev pub lead_of : Silence → (place : ℕ) → ℕ
lead_of s place =
    if not (s.peak == 0) && nat_lt s.below place && nat_lt place s.above
    then min (capped (s.length * (s.above - place)) / (s.above - s.below)) ((s.above - place) * 1000 / s.peak)
    else 0

-- How the packets of a stream came. (The rules are this project's own.)
use Rattle.std.specs.Prelude.{ℕ, ◌+◌, ◌-◌, Bool, true, ◌||◌, ◌&&◌, nat_le, nat_lt, Option, Some, None, if◌then◌else◌}
use Rattle.timing.specs.Capped.{capped}
use Rattle.timing.specs.Lately.{seen_none, seen_at, greatest_at}
use Rattle.timing.specs.Silence.{is_long, lead_of}
use Rattle.timing.specs.declared.arrivals.Arrivals.{Arrivals}
use Rattle.timing.specs.declared.silence.Silence.{Silence}

abbrev pub none_came : Arrivals
none_came = record { last = None; count = 0; since = 0; peak = seen_none; silence = None }

-- a packet is counted: one more of a second, or the first of another one
abbrev pub counted : Arrivals → (now : ℕ) → Arrivals
counted a now =
    if nat_lt (now - a.since) 1000 then record a { count = capped (a.count + 1) }
    else record a { count = 1; since = now; peak = seen_at a.peak a.count now }

-- all its places were passed
abbrev pub is_over : Silence → (cursor : Option ℕ) → Bool
is_over s None = true
is_over s (Some cursor) = nat_le s.above cursor

-- whether one more is kept in the place of one that was: that is over or no longer
abbrev pub is_longer : (old : Option Silence) → (cursor : Option ℕ) → Silence → Bool
is_longer None cursor s = true
is_longer (Some old) cursor s = is_over old cursor || nat_le old.length s.length

abbrev pub longer : Arrivals → (cursor : Option ℕ) → (least : ℕ) → Silence → Arrivals
longer a cursor least s = if is_longer a.silence cursor s && nat_le least s.length && is_long s then record a { silence = Some s } else a

-- a packet above all others ends a silence
abbrev pub kept_since : Arrivals → (last highest cursor : Option ℕ) → (least place now : ℕ) → Arrivals
kept_since a (Some last) (Some below) cursor least place now =
    longer a cursor least (record { below = below; above = place; length = now - last; peak = greatest_at a.peak now })
kept_since a last highest cursor least place now = a

abbrev pub kept : Arrivals → (highest cursor : Option ℕ) → (least place now : ℕ) → Arrivals
kept a highest cursor least place now = kept_since a a.last highest cursor least place now

-- a place is above all others
abbrev pub is_above : (highest : Option ℕ) → (place : ℕ) → Bool
is_above None place = true
is_above (Some highest) place = nat_lt highest place

-- a packet came
abbrev pub came_at : Arrivals → (highest cursor : Option ℕ) → (least place now : ℕ) → Arrivals
came_at a highest cursor least place now =
    if is_above highest place then record (kept (counted a now) highest cursor least place now) { last = Some now } else counted a now

-- all places are others
abbrev pub restarted_at : Arrivals → (now : ℕ) → Arrivals
restarted_at a now = record a { last = Some now; silence = None }

-- how long before it was noticed to be missing a packet was sent
abbrev pub lead_by : Option Silence → (place : ℕ) → ℕ
lead_by None place = 0
lead_by (Some s) place = lead_of s place

abbrev pub lead_at : Arrivals → (place : ℕ) → ℕ
lead_at a place = lead_by a.silence place

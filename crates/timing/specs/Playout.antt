-- The clock of a stream beside its receiver's. (RTP timestamps are those of RFC 3550, section 5.1; the rules are this project's own.)
use Rattle.std.specs.Prelude.{◌≡◌, ℕ, true, List, [], ◌∷◌, ◌+◌, ◌-◌, ◌*◌, ◌/◌, ◌^◌, ◌%◌, ◌==◌, ◌&&◌, ◌||◌, Bool, false, max, min, nat_lt, nat_le, Option, Some, None, if◌then◌else◌}
use Rattle.timing.specs.Capped.{capped}
use Rattle.timing.specs.Lately.{seen_none, seen_at, greatest_at}
use Rattle.timing.specs.declared.playout.Odd.{Odd}
use Rattle.timing.specs.declared.playout.Playout.{Playout}
use Rattle.timing.specs.declared.playout.Stamp.{Stamp}

abbrev pub new_playout : (rate : ℕ) → Playout
new_playout rate = record { rate = rate; latest = None; start = 0; early = seen_none; most = 0; odd = None }

-- how far a timestamp lies ahead of another one, in 32 bits
abbrev pub ahead : (one other : ℕ) → ℕ
ahead one other = (other + 2 ^ 32 - one) % 2 ^ 32

-- the ticks of a timestamp that are nearest to those of another one
abbrev pub extended : Stamp → (timestamp : ℕ) → ℕ
extended s timestamp =
    if nat_lt (ahead s.timestamp timestamp) (2 ^ 31) then capped (s.ticks + ahead s.timestamp timestamp)
    else s.ticks - ahead timestamp s.timestamp

abbrev pub ticks_of : (latest : Option Stamp) → (timestamp : ℕ) → ℕ
ticks_of None timestamp = 2 ^ 33
ticks_of (Some s) timestamp = extended s timestamp

abbrev pub ms_of : (rate ticks : ℕ) → ℕ
ms_of rate ticks = capped (ticks * 1000) / max rate 1

-- how early a packet came, by its ticks, beside the first one
abbrev pub came_early : (rate start ticks now : ℕ) → ℕ
came_early rate start ticks now = ms_of rate ticks - (now - start)

-- the later of two
abbrev pub later : (latest : Option Stamp) → Stamp → Stamp
later None s = s
later (Some latest) s = if nat_le latest.ticks s.ticks then s else latest

-- the moment at which the first packet came
abbrev pub start_at : (latest : Option Stamp) → (start now : ℕ) → ℕ
start_at None start now = now
start_at (Some latest) start now = start

-- ticks lie more than 100 milliseconds beyond the latest ones
abbrev pub is_beyond : (latest : Option Stamp) → (rate ticks : ℕ) → Bool
is_beyond None rate ticks = false
is_beyond (Some l) rate ticks = nat_lt (capped (ms_of rate l.ticks + 100)) (ms_of rate ticks)

-- A packet came by more than 100 milliseconds later than the earliest of late; or earlier, and so far beyond the latest one.
abbrev pub is_odd_beside : (latest : Option Stamp) → Playout → (ticks early : ℕ) → Bool
is_odd_beside None p ticks early = false
is_odd_beside (Some l) p ticks early = nat_lt (capped (early + 100)) p.most || nat_lt (capped (p.most + 100)) early && is_beyond (Some l) p.rate ticks

abbrev pub is_odd : Playout → (ticks early : ℕ) → Bool
is_odd p ticks early = is_odd_beside p.latest p ticks early

-- what came goes with what came before
abbrev pub heard_usual : Playout → Stamp → (early now : ℕ) → Playout
heard_usual p stamp early now =
    record p {
      latest = Some (later p.latest stamp);
      early = seen_at p.early early now;
      most = greatest_at (seen_at p.early early now) now;
      odd = None;
    }

-- odd packets in a row agree where all came within 100 milliseconds as early; those of one timestamp count once
abbrev pub agrees : Odd → (early : ℕ) → Bool
agrees o early = nat_le (max o.most early) (capped (min o.least early + 100))

abbrev pub one_odd : (ticks early : ℕ) → Odd
one_odd ticks early = record { least = early; most = early; ticks = ticks; count = 1 }

abbrev pub odd_after : Option Odd → (ticks early : ℕ) → Odd
odd_after None ticks early = one_odd ticks early
odd_after (Some o) ticks early =
    if agrees o early
    then record { least = min o.least early; most = max o.most early; ticks = ticks; count = if o.ticks == ticks then o.count else capped (o.count + 1) }
    else one_odd ticks early

-- eleven that agree are believed: the clock begins anew with them
abbrev pub settled : Playout → Stamp → Odd → (now : ℕ) → Playout
settled p stamp o now =
    if nat_lt o.count 11 then record p { odd = Some o }
    else record p { latest = Some stamp; early = seen_at seen_none o.most now; most = o.most; odd = None }

abbrev pub heard_odd : Playout → Stamp → (early now : ℕ) → Playout
heard_odd p stamp early now = settled p stamp (odd_after p.odd stamp.ticks early) now

-- a packet came
abbrev pub started : Playout → (now : ℕ) → Playout
started p now = record p { start = start_at p.latest p.start now }

abbrev pub stamp_of : Playout → (timestamp : ℕ) → Stamp
stamp_of p timestamp = record { timestamp = timestamp; ticks = ticks_of p.latest timestamp }

abbrev pub early_of : Playout → (timestamp now : ℕ) → ℕ
early_of p timestamp now = came_early p.rate (start_at p.latest p.start now) (ticks_of p.latest timestamp) now

abbrev pub comes_oddly : Playout → (timestamp now : ℕ) → Bool
comes_oddly p timestamp now = is_odd p (ticks_of p.latest timestamp) (early_of p timestamp now)

abbrev pub heard_at : Playout → (timestamp now : ℕ) → Playout
heard_at p timestamp now =
    if comes_oddly p timestamp now then heard_odd (started p now) (stamp_of p timestamp) (early_of p timestamp now) now
    else heard_usual (started p now) (stamp_of p timestamp) (early_of p timestamp now) now

-- the moment at which a packet leaves: one far beyond the latest at once
abbrev pub release_at : Playout → (timestamp latency : ℕ) → ℕ
release_at p timestamp latency =
    if is_beyond p.latest p.rate (ticks_of p.latest timestamp) then 0
    else capped (capped (p.start + latency) + ms_of p.rate (ticks_of p.latest timestamp)) - p.most

-- packets came one after another, with these timestamps and at these moments
abbrev pub heard_all : Playout → (packets : List (ℕ × ℕ)) → Playout
heard_all p [] = p
heard_all p (x ∷ packets) = heard_all (heard_at p x.0 x.1) packets

-- and each of them was odd
abbrev pub AllOdd : Playout → (packets : List (ℕ × ℕ)) → Type 0
AllOdd p [] = Unit {0}
AllOdd p (x ∷ packets) = (comes_oddly p x.0 x.1 ≡ true) × AllOdd (heard_at p x.0 x.1) packets

-- A round-trip time, from an ask to the retransmission that answers it, smoothed as RFC 6298, section 2, has it. All times are in
-- milliseconds.
use Rattle.std.specs.Prelude.{ℕ, Bool, true, false, ◌+◌, ◌-◌, ◌*◌, ◌/◌, ◌==◌, ◌&&◌, ◌||◌, nat_le, nat_lt, min, Option, Some, None, if◌then◌else◌}
use Rattle.timing.specs.Capped.{capped}
use Rattle.timing.specs.Lately.{seen_none, seen_at, greatest_at}
use Rattle.timing.specs.declared.round_trip.Answered.{Answered}
use Rattle.timing.specs.declared.round_trip.Probe.{Probe}
use Rattle.timing.specs.declared.round_trip.RoundTrip.{RoundTrip}
use Rattle.timing.specs.declared.round_trip.Smoothed.{Smoothed}

-- nothing was measured
abbrev pub measured_none : RoundTrip
measured_none = record { probe = None; answered = None; repaired = None; smoothed = None; doubts = 0; unanswered = 0; idle = seen_none; once = 0; twice = 0; both = false }

-- the first place that is asked for while none is measured is measured
abbrev pub probe_with : Option Probe → (place now : ℕ) → Option Probe
probe_with None place now = Some (record { place = place; asked = now; again = None })
probe_with (Some p) place now = Some p

abbrev pub probed : RoundTrip → (place now : ℕ) → RoundTrip
probed t place now = record t { probe = probe_with t.probe place now }

-- the place that is measured was asked for again: the first time that it was is kept
abbrev pub first_of : Option ℕ → (now : ℕ) → ℕ
first_of None now = now
first_of (Some again) now = again

abbrev pub probe_doubted : Option Probe → (now : ℕ) → Option Probe
probe_doubted None now = None
probe_doubted (Some p) now = Some (record p { again = Some (first_of p.again now) })

abbrev pub doubted : RoundTrip → (now : ℕ) → RoundTrip
doubted t now = record t { probe = probe_doubted t.probe now }

-- Eight times the smoothed time and four times its variation after a measurement r: first r and half of it, then seven parts
-- of eight of the old time and one of r, and three of four of the old variation and one of how far r lies from the old time.
abbrev pub smoothed_with : Option Smoothed → (r : ℕ) → Smoothed
smoothed_with None r = record { time = capped (r * 8); variation = capped (r * 2) }
smoothed_with (Some s) r =
    record {
      time = capped (s.time - s.time / 8 + r);
      variation = capped (s.variation - s.variation / 4 + ((r - s.time / 8) + (s.time / 8 - r)));
    }

-- how long after the first ask it came: a minute at most
abbrev pub time_since : (asked now : ℕ) → ℕ
time_since asked now = min (now - asked) 60000

abbrev pub measured : RoundTrip → (r : ℕ) → Bool × RoundTrip
measured t r = (true, record t { probe = None; smoothed = Some (smoothed_with t.smoothed r); doubts = 0 })

-- one in doubt is passed over, and kept: one more answer, so long after it as half of what lay between the first two asks, ends the doubt
abbrev pub passed_over : RoundTrip → (place asked again now : ℕ) → Bool × RoundTrip
passed_over t place asked again now =
    (false, record t { probe = None; answered = Some (record { place = place; time = time_since asked now; from = capped (now + (again - asked) / 2) }); doubts = t.doubts + 1 })

-- one without doubt: the least of late may be less
abbrev pub sure_at : RoundTrip → (r now : ℕ) → RoundTrip
sure_at t r now = record t { idle = seen_at t.idle (60000 - r) now; once = capped (t.once + 1) }

-- What is taken of a place that is measured is a measurement, and in doubt where the place was asked for again (RFC 6298, section 3). Eight
-- in doubt are passed over in a row.
abbrev pub heard_of : (again : Option ℕ) → RoundTrip → (place asked now : ℕ) → Bool × RoundTrip
heard_of None t place asked now = measured (sure_at t (time_since asked now) now) (time_since asked now)
heard_of (Some again) t place asked now = if nat_le (t.doubts + 1) 8 then passed_over t place asked again now else measured t (time_since asked now)

abbrev pub heard_with : Option Probe → RoundTrip → (place now : ℕ) → Bool × RoundTrip
heard_with None t place now = (false, t)
heard_with (Some p) t place now = if p.place == place then heard_of p.again (record t { repaired = Some p; unanswered = 0 }) place p.asked now else (false, t)

abbrev pub heard_at : RoundTrip → (place now : ℕ) → Bool × RoundTrip
heard_at t place now = heard_with t.probe t place now

-- A measurement that is longer than the time so far begins it anew; any other is smoothed.
abbrev pub raised_with : Option Smoothed → (r : ℕ) → Smoothed
raised_with None r = smoothed_with None r
raised_with (Some s) r = if nat_le r (s.time / 8) then smoothed_with (Some s) r else smoothed_with None r

-- One more answer of what was in doubt: both asks were answered, and what came first answered the first one. It is without doubt, then.
abbrev pub answered_again : Option Answered → RoundTrip → (place now : ℕ) → Bool × RoundTrip
answered_again None t place now = (false, t)
answered_again (Some a) t place now =
    if a.place == place && nat_le a.from now
    then (true, record t { answered = None; smoothed = Some (raised_with t.smoothed a.time); doubts = 0; idle = seen_at t.idle (60000 - a.time) now })
    else (false, t)

-- Of those that were asked for once so many were answered once more that both copies of a NACK are answered: more than half and eight.
abbrev pub are_both : (once twice : ℕ) → Bool
are_both once twice = nat_lt (once / 2 + 8) twice

-- One more answer of a place that was asked for once is a copy, and counts once.
abbrev pub is_first : (again : Option ℕ) → Bool
is_first None = true
is_first (Some again) = false

abbrev pub copied_of : Option Probe → RoundTrip → (place now : ℕ) → RoundTrip
copied_of None t place now = t
copied_of (Some p) t place now =
    if is_first p.again && p.place == place
    then record t { repaired = Some (record p { again = Some now }); twice = capped (t.twice + 1); both = t.both || are_both t.once (capped (t.twice + 1)) }
    else t

abbrev pub copied_at : RoundTrip → (place now : ℕ) → RoundTrip
copied_at t place now = copied_of t.repaired t place now

abbrev pub heard_again : RoundTrip → (place now : ℕ) → Bool × RoundTrip
heard_again t place now = answered_again t.answered (copied_at t place now) place now

-- The media packet of the place that was measured last came behind its retransmission, so long after the first ask for it.
abbrev pub original_of : Option Probe → RoundTrip → (place now : ℕ) → Option ℕ × RoundTrip
original_of None t place now = (None, t)
original_of (Some p) t place now = if p.place == place then (Some (now - p.asked), record t { repaired = None }) else (None, t)

abbrev pub heard_original : RoundTrip → (place now : ℕ) → Option ℕ × RoundTrip
heard_original t place now = original_of t.repaired t place now

-- all places are others
abbrev pub forgotten : RoundTrip → RoundTrip
forgotten t = record t { probe = None; answered = None; repaired = None }

-- a place that is played or given up is measured no longer
abbrev pub probe_without : Option Probe → (place : ℕ) → Option Probe
probe_without None place = None
probe_without (Some p) place = if p.place == place then None else Some p

abbrev pub passed_at : RoundTrip → (place : ℕ) → RoundTrip
passed_at t place = record t { probe = probe_without t.probe place }

-- A measurement that is longer than the time so far begins it anew, and any other says nothing.
abbrev pub is_longer : Option Smoothed → (r : ℕ) → Bool
is_longer None r = true
is_longer (Some s) r = nat_lt (s.time / 8) r

abbrev pub longer_with : Option Smoothed → (r : ℕ) → Option Smoothed
longer_with s r = if is_longer s r then Some (smoothed_with None r) else s

-- the least of late of what was without doubt; a minute where none was
abbrev pub least_of : RoundTrip → (now : ℕ) → ℕ
least_of t now = 60000 - greatest_at t.idle now

-- Where no answer came to three in a row that were measured, answers take as long as the third was waited for, or longer (RFC 6298,
-- section 5.5, doubles the timer at each).
abbrev pub unanswered_of : RoundTrip → (waited : ℕ) → Bool × RoundTrip
unanswered_of t waited =
    if nat_le (t.unanswered + 1) 2
    then (false, record t { unanswered = t.unanswered + 1 })
    else (is_longer t.smoothed waited, record t { unanswered = 0; smoothed = longer_with t.smoothed waited })

-- A place that was measured is given up, and no answer came. Where another one came of late without doubt, that says nothing.
abbrev pub given_up_of : RoundTrip → (waited now : ℕ) → Bool × RoundTrip
given_up_of t waited now = if least_of t now == 60000 then unanswered_of t waited else (false, t)

abbrev pub given_up_with : Option Probe → RoundTrip → (place now : ℕ) → Bool × RoundTrip
given_up_with None t place now = (false, t)
given_up_with (Some p) t place now = if p.place == place then given_up_of (record t { probe = None }) (time_since p.asked now) now else (false, t)

abbrev pub given_up_at : RoundTrip → (place now : ℕ) → Bool × RoundTrip
given_up_at t place now = given_up_with t.probe t place now

-- the smoothed time
abbrev pub time_of : Option Smoothed → Option ℕ
time_of None = None
time_of (Some s) = Some (s.time / 8)

-- what the smoothed time has beyond twice that waits in a queue
abbrev pub queued_with : (time : Option ℕ) → (least : ℕ) → ℕ
queued_with None least = 0
queued_with (Some time) least = time - 2 * least

abbrev pub queued_in : RoundTrip → (now : ℕ) → ℕ
queued_in t now = queued_with (time_of t.smoothed) (least_of t now)

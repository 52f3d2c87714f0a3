-- What was measured of a path.
use Rattle.std.specs.Prelude.{ℕ, Bool, true, false, ◌+◌, ◌-◌, ◌/◌, ◌==◌, ◌&&◌, nat_lt, nat_le, max, min, Option, Some, None, if◌then◌else◌}
use Rattle.timing.specs.Arrivals.{none_came}
use Rattle.timing.specs.Capped.{capped}
use Rattle.timing.specs.AskTimes.{answer_of, answer_where, ask_times, idle_answer, spacing_of, twice_of}
use Rattle.timing.specs.Lately.{seen_none, seen_at, greatest_at}
use Rattle.timing.specs.Losses.{are_many, asks_for, both, needless_at, none_lost, repaired_at, taken_at, turned_at}
use Rattle.timing.specs.RoundTrip.{heard_at, heard_original, least_of, measured_none, queued_in}
use Rattle.timing.specs.declared.ask_times.AskTimes.{AskTimes}
use Rattle.timing.specs.declared.losses.Losses.{Losses}
use Rattle.timing.specs.declared.path.Path.{Path}
use Rattle.timing.specs.declared.round_trip.Probe.{Probe}
use Rattle.timing.specs.declared.round_trip.RoundTrip.{RoundTrip}
use Rattle.timing.specs.declared.round_trip.Smoothed.{Smoothed}

abbrev pub new_path : Path
new_path = record { trip = measured_none; reordering = seen_none; arrivals = none_came; losses = none_lost }

-- a media packet was taken
abbrev pub path_taken : Path → (now : ℕ) → Path
path_taken p now = record p { losses = taken_at p.losses false now }

-- packets come so far behind later ones: that may be more than was known
abbrev pub reordered : Path → (late now : ℕ) → Bool × Path
reordered p late now = (nat_lt (greatest_at p.reordering now) late, record p { reordering = seen_at p.reordering late now })

-- one that was missing came so late
abbrev pub path_seen : Path → (late now : ℕ) → Bool × Path
path_seen p late now = reordered (record p { losses = taken_at p.losses true now }) late now

-- the place is the one that is measured
abbrev pub is_measured : Option Probe → (place : ℕ) → Bool
is_measured None place = false
is_measured (Some p) place = p.place == place

-- a retransmission was taken: that may be a measurement
abbrev pub path_repaired : Path → (place now : ℕ) → Bool × Path
path_repaired p place now =
    ((heard_at p.trip place now).0, record p { trip = (heard_at p.trip place now).1; losses = repaired_at p.losses (is_measured p.trip.probe place) now })

-- a media packet was refused, and came so long after the first ask for its place, where that was measured last
abbrev pub needless_by : (late : Option ℕ) → Path → (trip : RoundTrip) → (now : ℕ) → Bool × Path
needless_by None p trip now = (false, record p { trip = trip })
needless_by (Some late) p trip now = reordered (record p { trip = trip; losses = needless_at p.losses now }) late now

abbrev pub found_needless : Path → (place now : ℕ) → Bool × Path
found_needless p place now = needless_by (heard_original p.trip place now).0 p (heard_original p.trip place now).1 now

-- how long reordering is waited for: by a quarter longer than it was seen
abbrev pub waited_for : (extent : ℕ) → ℕ
waited_for extent = capped (extent + capped (extent + 3) / 4)

-- until a round trip is known, asks lie 40 milliseconds apart, and what is late is waited for where something was, up to half of the patience
abbrev pub first_times : (patience reordering : ℕ) → Option AskTimes
first_times patience reordering = if reordering == 0 then None else Some (record { delay = min reordering (patience / 2); retry = 40 })

-- how many asks are to fit
abbrev pub asks_at : Losses → (now : ℕ) → Option ℕ
asks_at l now = asks_for (both (turned_at l now).recent (turned_at l now).before)

-- many are lost
abbrev pub many_at : Losses → (now : ℕ) → Bool
many_at l now = are_many (both (turned_at l now).recent (turned_at l now).before)

-- All that is late is waited for where hardly anything is lost, and an ask still has its answer in time then.
abbrev pub waits_for_all : (asks answer patience reordering : ℕ) → Bool
waits_for_all asks answer patience reordering = asks == 0 && nat_le (capped (reordering + answer)) patience

-- One ask goes first at least, and no more than have their answers in time.
abbrev pub asks_first : (asks answer patience : ℕ) → ℕ
asks_first asks answer patience = min (max asks 1) (max (patience / max answer 1) 1)

-- else no more than half of a round trip is waited for it
abbrev pub half_of : Smoothed → (reordering : ℕ) → ℕ
half_of s reordering = min reordering (s.time / 16)

abbrev pub fitting_for : (asks : ℕ) → Smoothed → (answer patience reordering : ℕ) → AskTimes
fitting_for asks s answer patience reordering =
    ask_times answer patience (if waits_for_all asks answer patience reordering then reordering else half_of s reordering) (asks_first asks answer patience)

-- how long an answer takes where no queue is on the way; 0 where none of late is known
abbrev pub idle_where : (least reordering : ℕ) → ℕ
idle_where least reordering = if least == 60000 then 0 else idle_answer least reordering

-- Where hardly any packet comes late, asks lie as far apart as an answer takes mostly, and so a queue that fills lays them farther apart; or as
-- one takes on the mean, where many are lost; the last one has its answer in time mostly, there too. But two have their answers in time, where they have them over a path without a queue. Where many do, they lie as close as the least that one took of
-- late allows, and a queue takes its part of the patience.
abbrev pub times_known : (asks : Option ℕ) → (many : Bool) → Smoothed → RoundTrip → (patience reordering now : ℕ) → AskTimes
times_known None many s t patience reordering now =
    ask_times (twice_of (answer_where many s) (idle_where (least_of t now) reordering) patience) (patience - (answer_of s - answer_where many s)) (half_of s reordering) 1
times_known (Some asks) many s t patience reordering now =
    fitting_for asks s (spacing_of s (least_of t now) reordering) (patience - queued_in t now) reordering

abbrev pub times_with : Option Smoothed → Path → (patience now : ℕ) → Option AskTimes
times_with None p patience now = first_times patience (waited_for (greatest_at p.reordering now))
times_with (Some s) p patience now = Some (times_known (asks_at p.losses now) (many_at p.losses now) s p.trip patience (waited_for (greatest_at p.reordering now)) now)

-- the times of asks
abbrev pub times_over : Path → (patience now : ℕ) → Option AskTimes
times_over p patience now = times_with p.trip.smoothed p patience now

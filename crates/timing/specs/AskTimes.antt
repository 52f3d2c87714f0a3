-- When missing places are asked for, so that as many asks as can be answered in time are made. All times are in milliseconds.
use Rattle.std.specs.Prelude.{ℕ, Bool, ◌+◌, ◌-◌, ◌*◌, ◌/◌, ◌==◌, min, max, if◌then◌else◌}
use Rattle.timing.specs.Capped.{capped}
use Rattle.timing.specs.declared.ask_times.AskTimes.{AskTimes}
use Rattle.timing.specs.declared.round_trip.Smoothed.{Smoothed}

-- how long a retransmission takes from its ask on, mostly: the smoothed time, its variation, and five for timers (RFC 6298, section 2,
-- smooths both)
abbrev pub answer_of : Smoothed → ℕ
answer_of s = capped (capped (s.time / 8 + s.variation / 4) + 5)

-- how long it takes where no queue is on the way: the least that one took of late, what packets overtake each other by, and five
abbrev pub idle_answer : (least reordering : ℕ) → ℕ
idle_answer least reordering = capped (capped (least + reordering) + 5)

-- the shorter of both
abbrev pub spacing_of : Smoothed → (least reordering : ℕ) → ℕ
spacing_of s least reordering = min (answer_of s) (idle_answer least reordering)

-- The same without the variation, where many are lost: what has no answer by then was lost more likely than not.
abbrev pub answer_where : (many : Bool) → Smoothed → ℕ
answer_where many s = if many then capped (s.time / 8 + 5) else answer_of s

-- No more than half of the patience, so that two asks have their answers in time, unless an answer takes longer where no queue is on the way.
abbrev pub twice_of : (answer idle patience : ℕ) → ℕ
twice_of answer idle patience = min answer (max idle (patience / 2))

-- Asks that are `spacing` apart or more, of which the first has so much time that its answer is in time: how far apart they are, so
-- that as many as fit are spread over that room. Where no second one fits, it comes when the place is given up.
abbrev pub spread : (room spacing patience : ℕ) → ℕ
spread room spacing patience = if room / spacing == 0 then max spacing patience else room / (room / spacing)

-- The first ask waits as long as packets come behind later ones, but no longer than so many asks and their answers allow.
abbrev pub delay_of : (spacing patience reordering asks : ℕ) → ℕ
delay_of spacing patience reordering asks = min reordering (patience - capped (asks * spacing))

abbrev pub times_at : (spacing patience delay : ℕ) → AskTimes
times_at spacing patience delay = record { delay = delay; retry = spread (patience - spacing - delay) spacing patience }

abbrev pub ask_times : (answer patience reordering asks : ℕ) → AskTimes
ask_times answer patience reordering asks = times_at (max answer 1) patience (delay_of (max answer 1) patience reordering asks)

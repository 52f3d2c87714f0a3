-- A stream whose numbers go on, and how many of them became what, told by an endpoint's answers alone.
use Rattle.std.specs.Prelude.{ℕ, ◌+◌, ◌<◌, List, [], ◌∷◌, Option, Some, None, Ok}
use Rattle.endpoint.specs.declared.heard.Heard.TheVariants.{Media, Repair, Restarted}
use Rattle.endpoint.specs.Events.{Event, heard, begun_at, restarted_by_call}
use Rattle.endpoint.specs.Tally.{abandoned_in, gaps_in, overrun_in, played_in, skipped_in}

-- The numbers go on over this event: it is no restart by call, and none with which they are others, which has passed over nothing.
abbrev pub GoesOn : Event → Type 0
GoesOn (heard octets now (Ok (Restarted restart))) = 0 < restart.skipped
GoesOn restarted_by_call = ⊥
GoesOn event = Unit {0}

abbrev pub IsOneStream : List Event → Type 0
IsOneStream [] = Unit {0}
IsOneStream (event ∷ before) = GoesOn event × IsOneStream before

-- the next place to play behind this event, if it is the one that starts a receiver: the place that is taken, or begun with
abbrev pub starts_in : Event → Option ℕ
starts_in (heard octets now (Ok (Media taken))) = Some taken.place
starts_in (heard octets now (Ok (Repair taken))) = Some taken.place
starts_in (begun_at first) = Some (65536 + first)
starts_in event = None

abbrev pub or_else : (earlier later : Option ℕ) → Option ℕ
or_else None later = later
or_else (Some first) later = Some first

-- and behind the first event that starts one
abbrev pub start_of : List Event → Option ℕ
start_of [] = None
start_of (event ∷ before) = or_else (start_of before) (starts_in event)

-- How many places an event passes for good: it plays them, gives them up, drops them to make room, leaves them behind with a restart, or
-- the stream passed over them.
abbrev pub passed_in : Event → ℕ
passed_in event = played_in event + gaps_in event + overrun_in event + abandoned_in event + skipped_in event

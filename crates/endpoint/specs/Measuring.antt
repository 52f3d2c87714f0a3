-- What a receiving endpoint measures of the path by what comes, and by what it asks for.
use Rattle.std.specs.Prelude.{◌≡◌, ℕ, ◌+◌, ◌-◌, ◌/◌, ◌^◌, ◌<◌, ◌≤◌, ◌==◌, ◌||◌, Bool, false, nat_lt, List, length, drop, Option, Some, None, MatchOption, Result, Ok, Err, if◌then◌else◌}
use Rattle.byteorder.specs.Endian.{big_number}
use Rattle.places.specs.Place.{IsNear}
use Rattle.rtpwire.specs.Session.{Streams}
use Rattle.stores.specs.declared.slot.Slot.{Slot}
use Rattle.stores.specs.declared.slot.Slot.TheVariants.{Missing}
use Rattle.stores.specs.Span.{Span, highest_of}
use Rattle.stores.specs.ByPlace.{slot_at}
use Rattle.receiver.specs.Receiver.{Receiving, with_times}
use Rattle.receiver.specs.declared.fault.ReceiveFault.{ReceiveFault}
use Rattle.receiver.specs.declared.fault.ReceiveFault.TheVariants as refused
use Rattle.endpoint.specs.declared.heard.Heard.{Heard}
use Rattle.endpoint.specs.declared.heard.Heard.TheVariants as heard
use Rattle.endpoint.specs.declared.path_meter.PathMeter.{PathMeter}
use Rattle.endpoint.specs.declared.standing.Awaited.{Awaited}
use Rattle.endpoint.specs.declared.standing.Standing.{Standing}
use Rattle.endpoint.specs.Asked.{asked_at}
use Rattle.endpoint.specs.Kinds.{IsRepairOf}
use Rattle.timing.specs.declared.ask_times.AskTimes.{AskTimes}
use Rattle.timing.specs.declared.path.Path.{Path}
use Rattle.timing.specs.declared.arrivals.Arrivals.{Arrivals}
use Rattle.timing.specs.declared.round_trip.Probe.{Probe}
use Rattle.timing.specs.declared.round_trip.RoundTrip.{RoundTrip}
use Rattle.timing.specs.Path.{found_needless, new_path, path_repaired, path_seen, path_taken}
use Rattle.timing.specs.RoundTrip.{doubted, forgotten, given_up_at, heard_again, passed_at, probed}
use Rattle.timing.specs.Arrivals.{came_at, lead_at, none_came, restarted_at}
use Rattle.timing.specs.Capped.{capped}

-- The window misses this place since this moment, and it is the one that the sequence number in these octets stands for (RFC 3550,
-- section 5.1, has it at the third octet).
pub record IsMissed (s : Span) (octets : List ℕ) (place noticed : ℕ) : Type 0 where
  pub long : 4 ≤ length octets
  pub is_place : place < 2 ^ 48
  pub highest : ℕ
  pub is_highest : highest_of s ≡ Some highest
  pub near : IsNear highest (big_number 2 (drop 2 octets)) place
  pub asks : ℕ
  pub last : ℕ
  pub missing : slot_at s place ≡ Some (Missing noticed asks last)

-- the place that is missed, if there is one
abbrev pub IsWaitedFor : Span → (octets : List ℕ) → Option Awaited → Type 0
IsWaitedFor s octets None = (place noticed : ℕ) → IsMissed s octets place noticed → ⊥
IsWaitedFor s octets (Some a) = IsMissed s octets a.place a.noticed

-- The place near the highest one that the sequence number in these octets stands for, if there is one.
abbrev pub IsNumbered : (highest : Option ℕ) → (octets : List ℕ) → Option ℕ → Type 0
IsNumbered None octets place = place ≡ None
IsNumbered (Some h) octets None = 4 ≤ length octets → (place : ℕ) → place < 2 ^ 48 → IsNear h (big_number 2 (drop 2 octets)) place → ⊥
IsNumbered (Some h) octets (Some place) = (4 ≤ length octets) × (place < 2 ^ 48) × IsNear h (big_number 2 (drop 2 octets)) place

-- The place near the highest one whose packet the octets repeat, if they are a retransmission.
abbrev pub IsOriginal : Streams → (highest : Option ℕ) → (octets : List ℕ) → Option ℕ → Type 0
IsOriginal s None octets place = place ≡ None
IsOriginal s (Some h) octets place = MatchOption place ((q : ℕ) → IsRepairOf s h octets q → ⊥) (λ q. IsRepairOf s h octets q)

-- How long a silence is at least of which something is too late: by a quarter longer than a place is waited for. Of what was lost in a
-- shorter one all but the first few packets can still be in time, and these are late by little.
abbrev pub least_silence : (patience : ℕ) → ℕ
least_silence patience = capped (patience + patience / 4)

-- where a receiver stood, before a packet with these octets
pub record IsStanding (core : Receiving) (octets : List ℕ) (standing : Standing) : Type 0 where
  pub highest : standing.highest ≡ highest_of core.span
  pub cursor : standing.cursor ≡ core.span.cursor
  pub least : standing.least ≡ least_silence core.config.patience
  pub awaited : IsWaitedFor core.span octets standing.awaited
  pub place : IsNumbered (highest_of core.span) octets standing.place
  pub original : IsOriginal core.config.session (highest_of core.span) octets standing.original

-- A media packet that was waited for came late: so far packets come behind later ones. The times of asks follow where that is farther
-- than it was.
abbrev pub seen_by : Option Awaited → Path → (place now : ℕ) → Bool × Path
seen_by None p place now = (false, path_taken p now)
seen_by (Some a) p place now = if a.place == place then path_seen p (now - a.noticed) now else (false, path_taken p now)

-- A media packet came, and tells of a silence that it may end.
abbrev pub path_came : Standing → Path → (place now : ℕ) → Path
path_came s p place now = record p { arrivals = came_at p.arrivals s.highest s.cursor s.least place now }

-- A media packet that was refused at its place may have come behind its retransmission.
abbrev pub refused_by : (place : Option ℕ) → Path → (now : ℕ) → Bool × Path
refused_by None p now = (false, p)
refused_by (Some place) p now = found_needless p place now

-- A retransmission that was refused at its place, as one was taken before, may be a measurement too.
abbrev pub again_by : (original place : Option ℕ) → Path → (now : ℕ) → Bool × Path
again_by None place p now = refused_by place p now
again_by (Some original) place p now = ((heard_again p.trip original now).0, record p { trip = (heard_again p.trip original now).1 })

-- A retransmission that was taken may be a measurement of the round-trip time.
abbrev pub measured_by : Result Heard ReceiveFault → Standing → Path → (now : ℕ) → Bool × Path
measured_by (Ok (heard.Repair taken)) s p now = path_repaired p taken.place now
measured_by (Ok (heard.Media taken)) s p now = seen_by s.awaited (path_came s p taken.place now) taken.place now
measured_by (Ok (heard.Restarted restart)) s p now = (false, record p { arrivals = restarted_at p.arrivals now })
measured_by (Err (refused.Put fault)) s p now = again_by s.original s.place p now
measured_by answer s p now = (false, p)

-- nothing was measured
abbrev pub new_meter : PathMeter
new_meter = record { path = new_path; is_new = false }

-- what was heard is measured, and is more than was known where it says so
abbrev pub meter_heard : Result Heard ReceiveFault → Standing → (now : ℕ) → PathMeter → PathMeter
meter_heard answer s now m = record { path = (measured_by answer s m.path now).1; is_new = m.is_new || (measured_by answer s m.path now).0 }

-- how often a place was asked for, if it is missing
abbrev pub asks_of : Option Slot → Option ℕ
asks_of (Some (Missing noticed asks last)) = Some asks
asks_of o = None

abbrev pub is_once : (asks : Option ℕ) → Bool
is_once None = false
is_once (Some asks) = asks == 1

-- The first place that a NACK names is measured, where it is asked for the first time (RFC 4585, section 6.2.1, has its number at the
-- thirteenth octet).
abbrev pub trip_probed : Span → (highest : ℕ) → (nack : List ℕ) → (now : ℕ) → RoundTrip → RoundTrip
trip_probed s highest nack now t =
    if nat_lt (length nack) 14 then t
    else (if is_once (asks_of (slot_at s (asked_at highest (big_number 2 (drop 12 nack))))) then probed t (asked_at highest (big_number 2 (drop 12 nack))) now else t)

-- What is measured is in doubt from its second ask on; what is missing no longer is measured no longer.
abbrev pub trip_watched : (asks : Option ℕ) → Span → (place highest : ℕ) → (nack : List ℕ) → (now : ℕ) → RoundTrip → RoundTrip
trip_watched None s place highest nack now t = trip_probed s highest nack now (passed_at t place)
trip_watched (Some asks) s place highest nack now t = if nat_lt 1 asks then doubted t now else t

abbrev pub trip_after : Option Probe → Span → (highest : ℕ) → (nack : List ℕ) → (now : ℕ) → RoundTrip → RoundTrip
trip_after None s highest nack now t = trip_probed s highest nack now t
trip_after (Some p) s highest nack now t = trip_watched (asks_of (slot_at s p.place)) s p.place highest nack now t

-- what a NACK leaves of a round trip, over the window as it is after the ask
abbrev pub trip_asked : (highest : Option ℕ) → Span → (nack : List ℕ) → (now : ℕ) → RoundTrip → RoundTrip
trip_asked None s nack now t = t
trip_asked (Some highest) s nack now t = trip_after t.probe s highest nack now t

abbrev pub meter_asked : Span → (nack : List ℕ) → (now : ℕ) → PathMeter → PathMeter
meter_asked s nack now m = record m { path = record m.path { trip = trip_asked (highest_of s) s nack now m.path.trip } }

-- a place is played
abbrev pub meter_passed : (place : ℕ) → PathMeter → PathMeter
meter_passed place m = record m { path = record m.path { trip = passed_at m.path.trip place } }

-- a place is given up, which may be a measurement
abbrev pub meter_given_up : (place now : ℕ) → PathMeter → PathMeter
meter_given_up place now m =
    record { path = record m.path { trip = (given_up_at m.path.trip place now).1 }; is_new = m.is_new || (given_up_at m.path.trip place now).0 }

-- all places are others, and none is measured any more
abbrev pub meter_restarted : PathMeter → PathMeter
meter_restarted m = record m { path = record m.path { trip = forgotten m.path.trip; arrivals = none_came } }

-- the times follow what was measured, as many asks as fit into the patience, which stays
abbrev pub times_set : Option AskTimes → (patience : ℕ) → Receiving → Receiving
times_set None patience core = core
times_set (Some times) patience core = with_times core patience times.delay times.retry

-- How long a place is waited for since it was noticed to be missing: the patience, but for how long before that its packet was sent, as
-- far as a silence tells it. So what was lost in a long one, and can't be played in time any more, is given up at once.
abbrev pub left_at : Arrivals → (patience : ℕ) → (cursor : Option ℕ) → ℕ
left_at a patience None = patience
left_at a patience (Some place) = patience - lead_at a place

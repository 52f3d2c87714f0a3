-- The relay behind a network that loses: what it does with what comes, and what it does of its own. Each case of what it notes has
-- its equation, and what stands nowhere is never done.
use Rattle.std.specs.Prelude.{◌≡◌, ◌≤◌, ◌<◌, ◌-◌, ◌^◌, ◌⊎◌, ℕ, zero, suc, max, min, Bool, true, false, List, length, take, Option, Some, None, is_some, Result, Ok, Err}
use Rattle.std.specs.declared.net.socket_addr.SocketAddr.{SocketAddr}
use Rattle.arrayvec.specs.ArrayVec.{ArrayVec}
use Rattle.rtpwire.specs.Rtp.{RtpSpells}
use Rattle.rtpwire.specs.Content.{packet_of}
use Rattle.stores.specs.Span.{highest_of}
use Rattle.receiver.specs.declared.answer.Played.{Played}
use Rattle.receiver.specs.declared.answer.Played.TheVariants.{Packet, Gap, Wait}
use Rattle.receiver.specs.declared.fault.ReceiveFault.{ReceiveFault}
use Rattle.receiver.specs.Receiver.{Receiving, state_of}
use Rattle.receiver.specs.Peeking.{play_of, receiver_passed}
use Rattle.receiver.specs.Asks.{AnyNeedsRoom, AsksMost}
use Rattle.rtpwire.specs.declared.fault.TooShort.{TooShort}
use Rattle.receiver.specs.Config.{Config}
use Rattle.endpoint.specs.declared.holding.Run.{Run}
use Rattle.endpoint.specs.declared.heard.Heard.{Heard}
use Rattle.endpoint.specs.declared.heard.Heard.TheVariants as heard
use Rattle.endpoint.specs.declared.kind.Kind.{Kind}
use Rattle.endpoint.specs.declared.kind_counts.KindCounts.{KindCounts}
use Rattle.endpoint.specs.declared.path_meter.PathMeter.{PathMeter}
use Rattle.endpoint.specs.declared.probation.Probation.{Probation}
use Rattle.endpoint.specs.declared.receive_counts.ReceiveCounts.{ReceiveCounts}
use Rattle.endpoint.specs.declared.standing.Standing.{Standing}
use Rattle.endpoint.specs.Asked.{RemembersAsk, kept_after, none_asked}
use Rattle.endpoint.specs.Counts.{more}
use Rattle.endpoint.specs.Kinds.{IsKind, count_kind, no_kinds}
use Rattle.endpoint.specs.Measuring.{IsStanding, left_at, meter_asked, meter_given_up, meter_heard, meter_passed, new_meter, times_set}
use Rattle.endpoint.specs.ReceiveCounts.{count_heard, count_played, CountsAsk, no_counts}
use Rattle.endpoint.specs.Seen.{none_seen, seen_after}
use Rattle.endpoint.specs.declared.seen_packets.SeenPacket.{SeenPacket}
use Rattle.endpoint.specs.Receiving.{ends_of, fresh, IsMediaNumber, IsSpelledWhere, no_run}
use Rattle.endpoint.specs.Rivals.{HearsWeighed}
use Rattle.relays.specs.declared.bounds.Bounds.{Bounds}
use Rattle.relays.specs.declared.outside.Side.{Side}
use Rattle.relays.specs.declared.outside.Side.TheVariants.{Near, Far}
use Rattle.relays.specs.declared.numbering.Numbering.{Numbering}
use Rattle.timing.specs.declared.ask_times.AskTimes.{AskTimes}
use Rattle.timing.specs.declared.feedback_budget.FeedbackBudget.{FeedbackBudget}
use Rattle.relays.specs.declared.relay.Note.{Note}
use Rattle.relays.specs.declared.relay.Note.TheVariants as note
use Rattle.relays.specs.declared.relay.Departure.{Departure}
use Rattle.relays.specs.declared.relay.Turn.{Turn}
use Rattle.relays.specs.Ending.{is_over}
use Rattle.relays.specs.Numbering.{numbered, numbered_after, anew}
use Rattle.timing.specs.Lately.{greatest_at}
use Rattle.timing.specs.Path.{times_over}
use Rattle.timing.specs.RoundTrip.{time_of}
use Rattle.timing.specs.declared.playout.Playout.{Playout}
use Rattle.relays.specs.Holding.{asking_time, clock_after, held_by, timestamp_of, wait_by}
use Rattle.timing.specs.NackRoom.{budget_anew, budget_with, fewer_in, room_in}
use Rattle.relays.specs.Feedback.{after_nack, leaves_twice}
use Rattle.relays.specs.LatencyReports.{IsBehind, is_told_behind, reports_after}
use Rattle.relays.specs.declared.latency_report.LatencyReport.{LatencyReport}
use Rattle.relays.specs.declared.latency_reports.LatencyReports.{LatencyReports}
use Rattle.relays.specs.Leaving.{GoesTo, octets_of}
use Rattle.relays.specs.Moving.{next_of}
use Rattle.relays.specs.FarSide.{Shows, heard_at, is_quiet, left, new_far_side}
use Rattle.relays.specs.declared.far_side.FarSide.{FarSide}

-- what a relay is between two calls
pub record ReceiveSide : Type 0 where
  pub core : Receiving  -- the receivers of its endpoint, what that holds back, when it believes a jump, and what it counts
  pub spare : Receiving
  pub run : Run
  pub probation : Probation
  pub counts : ReceiveCounts
  pub asked : List (Option ℕ)  -- which places its endpoint asked for, as far as that remembers, and of which kind what came was
  pub kinds : KindCounts
  pub doubted : Bool  -- whether the SSRC of the retransmissions that its endpoint learnt is in doubt
  pub seen : List (Option SeenPacket)  -- what its endpoint took, as far as that remembers
  pub far : FarSide  -- where the far side is, and what shows it at another address
  pub reach : ℕ  -- by how much less a number may lie ahead that shows the far side at another address
  pub player : SocketAddr
  pub numbering : Numbering  -- the SSRC and the sequence numbers that the player sees
  pub hold : Option Playout  -- the clock by which packets are held for the player, if they are
  pub meter : PathMeter  -- what it measured of the path
  pub last : Option ℕ  -- the moment of the last play
  pub copy : Option (ArrayVec ℕ)  -- the NACK that left last, where it is still to leave a second time
  pub budget : Option FeedbackBudget  -- what may leave for the far side, where that is earned by what comes from there
  pub reports : Option LatencyReports  -- when it told the far side the latency, if it does
  pub bounds : Bounds

-- By how much less a number may lie ahead to be believed at once (MAX_DROPOUT of RFC 3550, appendix A.1): 3000, or as many as the
-- window keeps, so that a gap that it bridges is no restart.
abbrev pub dropout_of : (capacity : ℕ) → ℕ
dropout_of capacity = max capacity 3000

abbrev pub probation_of : (capacity : ℕ) → Probation
probation_of capacity = record { dropout = dropout_of capacity; misorder = 100; ahead = 2; behind = 256; silence = Some 200 }

-- a relay that took nothing
abbrev pub new_receive_side : Config → (capacity : ℕ) → (far player : SocketAddr) → Numbering → Option Playout → Bounds → ReceiveSide
new_receive_side config capacity far player numbering hold bounds =
    record {
      core = fresh config capacity;
      spare = fresh config capacity;
      run = no_run;
      probation = probation_of capacity;
      counts = no_counts;
      asked = none_asked capacity;
      kinds = no_kinds;
      doubted = false;
      seen = none_seen 8192;
      far = new_far_side far;
      reach = dropout_of capacity;
      player = player;
      numbering = numbering;
      hold = hold;
      meter = new_meter;
      last = None;
      copy = None;
      budget = None;
      reports = None;
      bounds = bounds;
    }

-- it ends by its bounds, of which it counts the packets that it played or gave up
abbrev pub is_done : ReceiveSide → (now : ℕ) → Bool
is_done s now = is_over s.bounds (more s.counts.played s.counts.gaps) s.last now

-- Where a stream restarts behind, with other numbers, those of what is played go on. Ahead they keep their distance, and what the jump
-- passed over is a hole, as is what the restart left behind.
abbrev pub numbering_over : (skipped : ℕ) → Numbering → Numbering
numbering_over zero n = anew n
numbering_over (suc more) n = n

abbrev pub numbering_after : Result Heard ReceiveFault → Numbering → Numbering
numbering_after (Ok (heard.Restarted r)) n = numbering_over r.skipped n
numbering_after answer n = n

-- The octets are a media packet of the session with one of the next numbers, which this is, or they are not.
abbrev pub GoesOn : ReceiveSide → (octets : List ℕ) → (next : Option ℕ) → Type 0
GoesOn s octets next =
    (number : Option ℕ) × IsMediaNumber s.core.config.session octets number × IsSpelledWhere octets number × (next ≡ next_of (highest_of s.core.span) number s.reach)

-- From another address than the far side's they may show it there where nothing comes from the old one: if they go on with the session.
abbrev pub MayShowWhere : (is_quiet : Bool) → ReceiveSide → (octets : List ℕ) → Bool → Type 0
MayShowWhere false s octets answer = answer ≡ false
MayShowWhere true s octets answer = (next : Option ℕ) × GoesOn s octets next × (answer ≡ is_some next)

abbrev pub MayShow : ReceiveSide → (octets : List ℕ) → (now : ℕ) → Bool → Type 0
MayShow s octets now answer = MayShowWhere (is_quiet s.far now) s octets answer

-- They do, with those that came before, or not yet. What does not go on with the session shows nothing.
abbrev pub ShowsBy : (next : Option ℕ) → FarSide → (from : SocketAddr) → (now : ℕ) → Bool → FarSide → Type 0
ShowsBy None old from now answer new = (answer ≡ false) × (new ≡ old)
ShowsBy (Some number) old from now answer new = Shows old from number now answer new

abbrev pub Moves : ReceiveSide → (from : SocketAddr) → (octets : List ℕ) → (now : ℕ) → Bool → FarSide → Type 0
Moves s from octets now answer far = (next : Option ℕ) × GoesOn s octets next × ShowsBy next s.far from now answer far

-- The endpoint hears a datagram of the far side; and what it took measures the path, by where its receiver stood.
pub record HearsFrom (old : ReceiveSide) (from : SocketAddr) (octets : List ℕ) (now : ℕ) (answer : Result Heard ReceiveFault) (kind : Kind) (new : ReceiveSide) : Type 0 where
  pub hears : HearsWeighed old.probation old.seen (ends_of old.core old.spare old.run) old.doubted octets now answer (ends_of new.core new.spare new.run) new.doubted
  pub standing : Standing
  pub stood : IsStanding old.core octets standing
  pub is_kind : IsKind old.asked old.core.config.session (highest_of old.core.span) octets answer kind
  pub rest : new ≡ record old { core = new.core; spare = new.spare; run = new.run; counts = count_heard answer old.counts; asked = kept_after answer old.asked; kinds = count_kind kind answer old.kinds; doubted = new.doubted; seen = seen_after answer octets old.seen; far = heard_at from now old.far; numbering = numbering_after answer old.numbering; hold = clock_after answer (timestamp_of octets) now old.hold; meter = meter_heard answer standing now old.meter; budget = budget_with (length octets) old.budget }

-- a far side that moved has earned nothing where it is now, and what was asked for is not asked for there a second time
abbrev pub moved : ReceiveSide → FarSide → ReceiveSide
moved s far = record s { far = left far; copy = None; budget = budget_anew s.budget }

-- the same of one that is led to an address, of which nothing is known but that
abbrev pub led : ReceiveSide → (far : SocketAddr) → ReceiveSide
led s far = record s { far = new_far_side far; copy = None; budget = budget_anew s.budget }

-- What is done with a datagram from another address than the far side's: the endpoint hears what shows the far side there, which is its address
-- from then on, and nobody else's. Of what shows nothing yet no more is kept than that.
abbrev pub HearsElsewhere : ReceiveSide → (from : SocketAddr) → (octets : List ℕ) → (now : ℕ) → Note → Option Departure → ReceiveSide → Type 0
HearsElsewhere old from octets now (note.Moved at answer kind) None new =
    (at ≡ from) × (far : FarSide) × Moves old from octets now true far × HearsFrom (moved old far) from octets now answer kind new
HearsElsewhere old from octets now note.Stray None new = Moves old from octets now false new.far × (new ≡ record old { far = new.far })
HearsElsewhere old from octets now n leaves new = ⊥

-- What is done with a datagram at the far side's socket: the endpoint hears what the far side sent, or what shows it at another address.
abbrev pub HearsFar : ReceiveSide → (from : SocketAddr) → (octets : List ℕ) → (now : ℕ) → Note → Option Departure → ReceiveSide → Type 0
HearsFar old from octets now (note.Heard answer kind) None new = (from ≡ old.far.at) × HearsFrom old from octets now answer kind new
HearsFar old from octets now n leaves new = (from ≡ old.far.at → ⊥) × HearsElsewhere old from octets now n leaves new

-- nothing is taken from the player
abbrev pub Hears : ReceiveSide → Side → (from : SocketAddr) → (octets : List ℕ) → (now : ℕ) → Turn → (out : List ℕ) → ReceiveSide → Type 0
Hears old Far from octets now turn out new = HearsFar old from octets now turn.note turn.leaves new
Hears old Near from octets now turn out new = (turn ≡ record { note = note.Stray; leaves = None }) × (new ≡ old)

-- a play passes a place
abbrev pub passes : ReceiveSide → Played → (now : ℕ) → ReceiveSide
passes old played now =
    record old { core = receiver_passed played old.core; counts = count_played played old.counts; last = Some now }

-- What is played goes to the player: a packet with what it carried, under the media's type, the player's SSRC and the next number;
-- and nothing where a place is given up. No retransmission of a place that was passed is measured any more, and none that never came is forgotten.
abbrev pub PlaysOut : Played → ReceiveSide → (now : ℕ) → Note → Option Departure → (out : List ℕ) → ReceiveSide → Type 0
PlaysOut (Packet place content) old now (note.Played p) (Some d) out new =
    (p ≡ place) × GoesTo d Near old.player
    × RtpSpells (packet_of content 0 (numbered old.numbering place) old.core.config.session.media_type old.numbering.ssrc) (octets_of d out)
    × (new ≡ record (passes old (Packet place content) now) { meter = meter_passed place old.meter; numbering = numbered_after old.numbering place })
PlaysOut (Gap place) old now (note.Gap p) None out new = (p ≡ place) × (new ≡ record (passes old (Gap place) now) { meter = meter_given_up place now old.meter })
PlaysOut played old now n leaves out new = ⊥

-- How long the next place is waited for since it was noticed to be missing: by when its packet was sent, as far as a silence tells it,
-- and by when the packet behind it is to leave, where packets are held.
abbrev pub patience_left : ReceiveSide → ℕ
patience_left s = min (left_at s.meter.path.arrivals s.core.config.patience s.core.span.cursor) (wait_by s.hold s.core.config.patience s.core.span)

-- what a play would give at this moment
abbrev pub next_play : ReceiveSide → (now : ℕ) → Played
next_play s now = held_by s.hold s.core.config.patience now (play_of (patience_left s) now s.core.span)

-- nothing is due
abbrev pub NothingDue : ReceiveSide → (now : ℕ) → Type 0
NothingDue old now = AsksMost old.core.config (state_of old.core) now 256 None (state_of old.core)

-- its endpoint writes a NACK of so many places at most that are due, which has these octets and no more than there is room for
pub record AsksOf (room most : ℕ) (old : ReceiveSide) (now len : ℕ) (out : List ℕ) (new : ReceiveSide) : Type 0 where
  pub asks : AsksMost old.core.config (state_of old.core) now most (Some (record { items = take len out })) (state_of new.core)
  pub earned : len ≤ room
  pub counted : CountsAsk (Some (record { items = take len out })) old.counts new.counts
  pub asked : RemembersAsk (highest_of old.core.span) (Some (record { items = take len out })) old.asked new.asked

-- all else stays
abbrev pub StaysBut : ReceiveSide → ReceiveSide → Type 0
StaysBut old new = new ≡ record old { core = new.core; counts = new.counts; asked = new.asked }

-- such a NACK would have more octets than there is room for
pub record IsTooLong (room most : ℕ) (old : ReceiveSide) (now : ℕ) : Type 0 where
  pub needed : ℕ
  pub needs : AnyNeedsRoom old.core.config (state_of old.core) now most needed
  pub beyond : room < needed

abbrev pub AsksIn : (room most : ℕ) → ReceiveSide → (now : ℕ) → Result (Option ℕ) TooShort → (out : List ℕ) → ReceiveSide → Type 0
AsksIn room most old now (Ok (Some len)) out new = AsksOf room most old now len out new × StaysBut old new
AsksIn room most old now (Ok None) out new = AsksMost old.core.config (state_of old.core) now most None (state_of old.core) × (new ≡ old)
AsksIn room most old now (Err short) out new = IsTooLong room most old now × (new ≡ old)

-- of all that one may name is asked for, or of fewer places where that is too long
abbrev pub AsksWithin : (room : ℕ) → ReceiveSide → (now len : ℕ) → (out : List ℕ) → ReceiveSide → Type 0
AsksWithin room old now len out new = AsksOf room 256 old now len out new ⊎ (IsTooLong room 256 old now × AsksOf room (fewer_in room) old now len out new)

-- or none: nothing is due, or what is has no room there
abbrev pub AsksNot : (room : ℕ) → ReceiveSide → (now : ℕ) → Type 0
AsksNot room old now =
    NothingDue old now ⊎ (IsTooLong room 256 old now × (AsksMost old.core.config (state_of old.core) now (fewer_in room) None (state_of old.core) ⊎ IsTooLong room (fewer_in room) old now))

-- the NACK is to leave a second time
abbrev pub copy_for : (octets : List ℕ) → (is_twice : Bool) → Option (ArrayVec ℕ)
copy_for octets true = Some (record { items = octets })
copy_for octets false = None

-- what it tells of its latency
abbrev pub report_of : ReceiveSide → LatencyReport
report_of s = record { ssrc = s.core.config.session.receiver_ssrc; latency = min s.core.config.patience (2 ^ 32 - 1) }

-- Places that are due are asked for at the far side, within what was earned, by a NACK; and the latency may be told behind that.
pub record AsksFar (old : ReceiveSide) (now : ℕ) (d : Departure) (out : List ℕ) (new : ReceiveSide) : Type 0 where
  pub nack : ℕ
  pub asks : AsksWithin (room_in old.budget) old now nack out new
  pub is_told : Bool
  pub tells : is_told ≡ is_told_behind old.reports nack (room_in old.budget) now
  pub behind : IsBehind is_told (report_of old) nack d.len (octets_of d out) out
  pub config : new.core.config ≡ old.core.config
  pub earned : d.len ≤ room_in old.budget
  pub goes : GoesTo d Far old.far.at
  pub rest : new ≡ record old { core = new.core; counts = new.counts; asked = new.asked; meter = meter_asked new.core.span (octets_of d out) now old.meter; copy = copy_for (octets_of d out) (leaves_twice d.len old.budget); budget = after_nack d.len old.budget; reports = reports_after is_told now old.reports }

abbrev pub Asks : ReceiveSide → (now : ℕ) → Note → Option Departure → (out : List ℕ) → ReceiveSide → Type 0
Asks old now note.Asked (Some d) out new = AsksFar old now d out new
Asks old now n leaves out new = ⊥

-- the last NACK leaves a second time, as it was
abbrev pub AsksAgain : ReceiveSide → Option Departure → (out : List ℕ) → ReceiveSide → Type 0
AsksAgain old None out new = ⊥
AsksAgain old (Some d) out new = (old.copy ≡ Some (record { items = octets_of d out })) × GoesTo d Far old.far.at × (new ≡ record old { copy = None })

-- how long the times are for which it asks
abbrev pub time_for_asks : ReceiveSide → (now : ℕ) → ℕ
time_for_asks s now = asking_time s.hold s.core.config.patience (greatest_at s.meter.path.reordering now)

-- the times follow what was measured
abbrev pub TimedBy : ReceiveSide → Option AskTimes → ReceiveSide → Type 0
TimedBy old times new =
    new ≡ record old { core = times_set times old.core.config.patience old.core; spare = times_set times old.core.config.patience old.spare; meter = record old.meter { is_new = false } }

-- what is done of its own: the times are set if something was measured, or else what is to be played is, or else the last NACK leaves a
-- second time, or else what is due is asked for, or else nothing is to be done
abbrev pub SpeaksAs : ReceiveSide → (now : ℕ) → Note → Option Departure → (out : List ℕ) → ReceiveSide → Type 0
SpeaksAs old now (note.Timed time) None out new =
    (old.meter.is_new ≡ true) × (time ≡ time_of old.meter.path.trip.smoothed) × TimedBy old (times_over old.meter.path (time_for_asks old now) now) new
SpeaksAs old now (note.Played place) leaves out new = (old.meter.is_new ≡ false) × PlaysOut (next_play old now) old now (note.Played place) leaves out new
SpeaksAs old now (note.Gap place) leaves out new = (old.meter.is_new ≡ false) × PlaysOut (next_play old now) old now (note.Gap place) leaves out new
SpeaksAs old now note.AskedAgain leaves out new = (old.meter.is_new ≡ false) × (next_play old now ≡ Wait) × AsksAgain old leaves out new
SpeaksAs old now note.Asked leaves out new = (old.meter.is_new ≡ false) × (next_play old now ≡ Wait) × (old.copy ≡ None) × Asks old now note.Asked leaves out new
SpeaksAs old now n leaves out new = ⊥

-- nothing is asked for: a NACK has no room in what was earned, or none is written
pub record NothingAsked (old : ReceiveSide) (now : ℕ) : Type 0 where
  pub either : (room_in old.budget < 16) ⊎ AsksNot (room_in old.budget) old now

abbrev pub Speaks : ReceiveSide → (now : ℕ) → Option Turn → (out : List ℕ) → ReceiveSide → Type 0
Speaks old now None out new = (old.meter.is_new ≡ false) × (next_play old now ≡ Wait) × (old.copy ≡ None) × NothingAsked old now × (new ≡ old)
Speaks old now (Some turn) out new = SpeaksAs old now turn.note turn.leaves out new

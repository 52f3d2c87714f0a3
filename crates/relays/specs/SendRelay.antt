-- The relay before a network that loses: what it does with what comes, and what it does of its own. Each case of what it notes has
-- its equation, and what stands nowhere is never done.
use Rattle.std.specs.Prelude.{◌≡◌, ℕ, zero, suc, ◌^◌, ◌<◌, ◌≤◌, ◌-◌, ◌==◌, ◌&&◌, Bool, true, false, nat_le, List, length, Option, Some, None, Result}
use Rattle.std.specs.declared.net.socket_addr.SocketAddr.{SocketAddr}
use Rattle.rtpwire.specs.declared.content.Content.{Content}
use Rattle.rtpwire.specs.Rtp.{RtpPacket, RtpSpells}
use Rattle.rtpwire.specs.Session.{Streams}
use Rattle.rtpwire.specs.Content.{packet_of, IsTooLong}
use Rattle.sender.specs.Sender.{Sending, state_of}
use Rattle.sender.specs.History.{SenderState, NoneMarked}
use Rattle.sender.specs.Sending.{SendsAt}
use Rattle.sender.specs.Repairing.{RepairsAt}
use Rattle.sender.specs.Passing.{IsNextAny, PassesAt}
use Rattle.sender.specs.Tail.{MarksLast}
use Rattle.endpoint.specs.Demultiplex.{is_control}
use Rattle.endpoint.specs.Sending.{TellsKind}
use Rattle.endpoint.specs.declared.resend_counts.ResendCounts.{ResendCounts}
use Rattle.endpoint.specs.declared.resend_meter.ResendMeter.{ResendMeter}
use Rattle.endpoint.specs.declared.resend_rule.ResendRule.{ResendRule}
use Rattle.endpoint.specs.declared.resend_rule.Times.{Times}
use Rattle.endpoint.specs.declared.send_counts.SendCounts.{SendCounts}
use Rattle.endpoint.specs.declared.told.Told.{Told as Answer}
use Rattle.fbwire.specs.declared.fault.FeedbackFault.{FeedbackFault}
use Rattle.endpoint.specs.Moments.{just_sent, sent_again, times_at, told}
use Rattle.endpoint.specs.Passing.{PassesWhatMayNot}
use Rattle.endpoint.specs.ResendCounts.{none_passed}
use Rattle.endpoint.specs.ResendMetering.{HearsTime, meter_fixed, meter_resent, meter_sent, rule_by}
use Rattle.endpoint.specs.SendCounts.{count_sent, count_told, count_repaired, no_counts}
use Rattle.relays.specs.declared.backlog.Backlog.{Backlog}
use Rattle.relays.specs.declared.bounds.Bounds.{Bounds}
use Rattle.relays.specs.declared.outside.Side.{Side}
use Rattle.relays.specs.declared.outside.Side.TheVariants.{Near, Far}
use Rattle.relays.specs.declared.pace.Pace.{Pace}
use Rattle.relays.specs.declared.stream.Stream.{Stream}
use Rattle.relays.specs.declared.relay.Note.{Note}
use Rattle.relays.specs.declared.relay.Note.TheVariants.{Sent, Unsent, Told, Stray, Retransmitted, PassedOver, Crowded, Marked}
use Rattle.relays.specs.declared.relay.Departure.{Departure}
use Rattle.relays.specs.declared.relay.Turn.{Turn}
use Rattle.relays.specs.Following.{Follows, followed_by, keeps_out}
use Rattle.relays.specs.Ending.{is_over}
use Rattle.relays.specs.Backlog.{emptied, gone, is_beyond, kept_beside, less_by, marked_by, marked_more, measured_with, new_backlog, has_stood, seen_at}
use Rattle.relays.specs.Pacing.{fallen, is_open, is_scarce, opens_after, paced_beside, room_of}
use Rattle.relays.specs.Leaving.{GoesTo, octets_of}
use Rattle.relays.specs.FarLatency.{HearsLatency, deadline_at, gap_seen, untold}
use Rattle.relays.specs.declared.far_latency.FarLatency.{FarLatency}

-- what a relay is between two calls
pub record SendSide : Type 0 where
  pub core : Sending  -- the sender of its endpoint, and what that counts
  pub counts : SendCounts
  pub rule : ResendRule  -- which retransmissions fit the time
  pub moments : List Times  -- when each packet was sent and last retransmitted, in a ring
  pub passed : ResendCounts  -- the retransmissions that did not fit
  pub meter : ResendMeter  -- what it measures of the path
  pub far : SocketAddr
  pub stream : Stream  -- the application's
  pub pace : Pace
  pub backlog : Backlog  -- how much is marked
  pub tail : Bool  -- the last packet is still to be retransmitted once the stream falls silent
  pub latency : FarLatency  -- how old a packet may be that the far side still has use for
  pub bounds : Bounds

-- a relay that sent nothing
abbrev pub new_send_side : Sending → ResendRule → List Times → SocketAddr → Stream → Pace → Bounds → SendSide
new_send_side core rule moments far stream pace bounds =
    record { core = core; counts = no_counts; rule = rule; moments = moments; passed = none_passed; meter = meter_fixed; far = far; stream = stream; pace = pace; backlog = new_backlog; tail = false; latency = untold; bounds = bounds }

-- it ends by its bounds, of which it counts the packets that it sent
abbrev pub is_done : SendSide → (now : ℕ) → Bool
is_done s now = is_over s.bounds s.counts.sent s.stream.last now

-- a packet of this SSRC and type from this address is of its stream, or of one that takes its place
abbrev pub IsOfStream : SendSide → SocketAddr → (ssrc payload_type now : ℕ) → Bool → Type 0
IsOfStream s from ssrc payload_type now answer =
    (of_stream : Bool) × Follows s.stream from ssrc now of_stream
    × (answer ≡ ((payload_type == s.core.config.session.media_type) && of_stream))

-- its stream is bound to another SSRC
abbrev pub is_kept_from : SendSide → (ssrc : ℕ) → Bool
is_kept_from s ssrc = keeps_out s.stream ssrc

-- A datagram of the application is this packet of the stream, with the session's media type, and carries this content.
pub record Carries (session : Streams) (stream : Stream) (from : SocketAddr) (octets : List ℕ) (now : ℕ) (packet : RtpPacket) (content : Content) : Type 0 where
  pub spelled : RtpSpells packet octets
  pub of_type : packet.payload_type ≡ session.media_type
  pub of_stream : Follows stream from packet.ssrc now true
  pub holds : IsTooLong packet → ⊥
  pub carried : packet_of content packet.padding packet.sequence packet.payload_type packet.ssrc ≡ packet

abbrev pub CarriesNothing : Streams → Stream → (from : SocketAddr) → (octets : List ℕ) → (now : ℕ) → Type 0
CarriesNothing session stream from octets now = (packet : RtpPacket) (content : Content) → Carries session stream from octets now packet content → ⊥

-- it carries this content under this SSRC
pub record IsCarried (session : Streams) (stream : Stream) (from : SocketAddr) (octets : List ℕ) (now ssrc : ℕ) (content : Content) : Type 0 where
  pub packet : RtpPacket
  pub carries : Carries session stream from octets now packet content
  pub ssrc_is : packet.ssrc ≡ ssrc

-- It is sent at the next place of the session, to the far side, and retransmissions are paced by what left.
pub record Forwarded (old : SendSide) (from : SocketAddr) (octets : List ℕ) (now place : ℕ) (d : Departure) (out : List ℕ) (new : SendSide) : Type 0 where
  pub packet : RtpPacket
  pub content : Content
  pub carries : Carries old.core.config.session old.stream from octets now packet content
  pub sends : SendsAt old.core.config.session old.core.past.capacity (state_of old.core) content 0 place (octets_of d out) (state_of new.core)
  pub goes : GoesTo d Far old.far
  pub config : new.core.config ≡ old.core.config
  pub rest : new ≡ record old { core = new.core; counts = count_sent (length content.payload.items) old.counts; moments = told old.moments place (just_sent now); meter = meter_sent old.meter now; stream = followed_by old.stream from packet.ssrc now; pace = paced_beside old.pace d.len now; backlog = measured_with old.backlog d.len; tail = true; latency = gap_seen old.stream.last now old.latency }

-- what is done with a datagram of the application: it is sent, or it carries nothing, or there is no place left
abbrev pub Forwards : SendSide → (from : SocketAddr) → (octets : List ℕ) → (now : ℕ) → Note → Option Departure → (out : List ℕ) → SendSide → Type 0
Forwards old from octets now (Sent place) (Some d) out new = Forwarded old from octets now place d out new
Forwards old from octets now Unsent None out new =
    ((packet : RtpPacket) (content : Content) → Carries old.core.config.session old.stream from octets now packet content → 2 ^ 48 ≤ old.core.next) × (new ≡ old)
Forwards old from octets now note leaves out new = ⊥

-- How much is marked once feedback was heard: counted anew where nothing was before, and seen beside what may leave soon.
abbrev pub backlog_after : (first : Option ℕ) → Result Answer FeedbackFault → (now : ℕ) → SendSide → Backlog
backlog_after first answer now s = seen_at (marked_by answer (kept_beside first s.backlog)) (room_of (fallen s.pace now)) now

-- The path is measured by a datagram of the far side, what retransmissions may have falls with the media's rate, and the endpoint hears it.
pub record HearsFeedback (old : SendSide) (octets : List ℕ) (now : ℕ) (answer : Result Answer FeedbackFault) (new : SendSide) : Type 0 where
  pub first : Option ℕ
  pub is_next : IsNextAny (state_of old.core) first
  pub measures : HearsTime old.core.config old.core.past old.moments octets now old.meter.interval new.meter.interval
  pub tells : TellsKind (is_control octets) old.core octets answer new.core
  pub tells_latency : HearsLatency answer octets now old.latency new.latency
  pub rest : new ≡ record old { core = new.core; counts = count_told answer old.counts; meter = new.meter; pace = fallen old.pace now; backlog = backlog_after first answer now old; latency = new.latency }

-- what is done with a datagram at the other socket: the endpoint hears what the far side sent, and nobody else's
abbrev pub HearsFar : SendSide → (from : SocketAddr) → (octets : List ℕ) → (now : ℕ) → Note → Option Departure → SendSide → Type 0
HearsFar old from octets now (Told answer) None new = (from ≡ old.far) × HearsFeedback old octets now answer new
HearsFar old from octets now Stray None new = (from ≡ old.far → ⊥) × (new ≡ old)
HearsFar old from octets now note leaves new = ⊥

abbrev pub Hears : SendSide → Side → (from : SocketAddr) → (octets : List ℕ) → (now : ℕ) → Turn → (out : List ℕ) → SendSide → Type 0
Hears old Near from octets now turn out new = Forwards old from octets now turn.note turn.leaves out new
Hears old Far from octets now turn out new = HearsFar old from octets now turn.note turn.leaves new

-- the stream, of which something came, is silent for a tenth of a second
abbrev pub fell_silent : (last : Option ℕ) → (now : ℕ) → Bool
fell_silent None now = false
fell_silent (Some last) now = nat_le 100 (now - last)

abbrev pub is_tail_at : SendSide → (now : ℕ) → Bool
is_tail_at old now = old.tail && fell_silent old.stream.last now

-- the rule that holds at a moment: where little is left to leave, nothing goes a second time
abbrev pub once_where : (is_scarce : Bool) → ResendRule → ResendRule
once_where false rule = rule
once_where true rule = record rule { min_resend = 2 ^ 64 - 1 }

-- a rule without a deadline has the one that is known of the far side
abbrev pub deadline_or : (own known : Option ℕ) → Option ℕ
deadline_or None known = known
deadline_or (Some own) known = Some own

abbrev pub rule_in_time : SendSide → (now : ℕ) → ResendRule
rule_in_time s now = record s.rule { deadline = deadline_or s.rule.deadline (deadline_at s.latency now) }

abbrev pub rule_at : SendSide → (now : ℕ) → ResendRule
rule_at s now = once_where (is_scarce s.pace now) (rule_by s.meter.interval (rule_in_time s now) now)

-- More is marked than may leave soon, and that for a second: what stands so makes all that is marked behind it too late.
abbrev pub is_crowded : SendSide → (now : ℕ) → Bool
is_crowded s now = has_stood s.backlog.since now && is_beyond s.backlog (room_of s.pace)

abbrev pub NotCrowded : SendSide → (now : ℕ) → Type 0
NotCrowded s now = is_crowded s now ≡ true → NoneMarked (state_of s.core)

-- so many of the least marked packets are passed over, one after the other
abbrev pub PassesLeast : (packets : ℕ) → (old new : SenderState) → Type 0
PassesLeast zero old new = new ≡ old
PassesLeast (suc packets) old new = (mid : SenderState) × (place : ℕ) × PassesLeast packets old mid × PassesAt mid place new

-- As many of the oldest are passed over as have to be, and no more.
pub record LeavesOut (old : SendSide) (now packets : ℕ) (new : SendSide) : Type 0 where
  pub passes : PassesLeast packets (state_of old.core) (state_of new.core)
  pub needed : is_crowded (record old { backlog = less_by (packets - 1) old.backlog }) now ≡ true
  pub enough : NotCrowded new now
  pub config : new.core.config ≡ old.core.config
  pub rest : new ≡ record old { core = new.core; backlog = less_by packets old.backlog }

-- The least packet that is marked and fits the time is retransmitted to the far side, as the pace lets it. What is marked below it is
-- passed over.
pub record Retransmits (old : SendSide) (now place : ℕ) (d : Departure) (out : List ℕ) (new : SendSide) : Type 0 where
  pub opened : is_open old.pace now ≡ true
  pub between : SenderState
  pub passes : PassesWhatMayNot (rule_at old now) old.moments now (state_of old.core) old.passed between new.passed
  pub repairs : RepairsAt old.core.config.session between place (octets_of d out) (state_of new.core)
  pub goes : GoesTo d Far old.far
  pub config : new.core.config ≡ old.core.config
  pub rest : new ≡ record old { core = new.core; counts = count_repaired old.counts; moments = told old.moments place (sent_again now (times_at old.moments place)); passed = new.passed; meter = meter_resent old.meter now; pace = opens_after old.pace d.len now; backlog = less_by (gone old.passed new.passed) old.backlog }

-- Of what is marked nothing fits the time, and all of it is passed over.
pub record PassesAllOver (old : SendSide) (now : ℕ) (new : SendSide) : Type 0 where
  pub opened : is_open old.pace now ≡ true
  pub is_marked : NoneMarked (state_of old.core) → ⊥
  pub passes : PassesWhatMayNot (rule_at old now) old.moments now (state_of old.core) old.passed (state_of new.core) new.passed
  pub none_left : NoneMarked (state_of new.core)
  pub config : new.core.config ≡ old.core.config
  pub rest : new ≡ record old { core = new.core; passed = new.passed; backlog = emptied old.backlog }

-- no packet is marked that the pace would let leave
abbrev pub NothingOpen : SendSide → (now : ℕ) → Type 0
NothingOpen old now = is_open old.pace now ≡ true → NoneMarked (state_of old.core)

-- what is done of its own: what is marked beyond what may leave soon is passed over where that stands, or else something is retransmitted or all that is
-- marked is passed over, or else the last packet is marked, or else nothing is to be done
abbrev pub SpeaksAs : SendSide → (now : ℕ) → Note → Option Departure → (out : List ℕ) → SendSide → Type 0
SpeaksAs old now (Crowded packets) None out new = (0 < packets) × LeavesOut old now packets new
SpeaksAs old now (Retransmitted place) (Some d) out new = NotCrowded old now × Retransmits old now place d out new
SpeaksAs old now (PassedOver passed) None out new = NotCrowded old now × (passed ≡ new.passed) × PassesAllOver old now new
SpeaksAs old now (Marked marked) None out new =
    NotCrowded old now × NothingOpen old now × (is_tail_at old now ≡ true)
    × MarksLast old.core.config.repeats (state_of old.core) marked (state_of new.core)
    × (new ≡ record old { core = new.core; backlog = marked_more old.backlog marked.places; tail = false })
SpeaksAs old now note leaves out new = ⊥

abbrev pub Speaks : SendSide → (now : ℕ) → Option Turn → (out : List ℕ) → SendSide → Type 0
Speaks old now None out new = NotCrowded old now × NothingOpen old now × (is_tail_at old now ≡ false) × (new ≡ old)
Speaks old now (Some turn) out new = SpeaksAs old now turn.note turn.leaves out new

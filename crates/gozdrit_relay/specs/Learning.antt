-- Which session a relay learns, and the relay that it makes of it.
use Rattle.std.specs.Prelude.{◌≡◌, ◌↔◌, ℕ, ◌+◌, ◌-◌, ◌/◌, ◌==◌, ◌&&◌, ◌||◌, Bool, true, false, not, max, min, List, length, Option, Some, None, if◌then◌else◌}
use Rattle.std.specs.declared.net.socket_addr.SocketAddr.{SocketAddr}
use Rattle.rtpwire.specs.Rtp.{RtpPacket, RtpSpells}
use Rattle.rtpwire.specs.Session.{Streams}
use Rattle.stores.specs.Past.{empty_past}
use Rattle.sender.specs.Config as sending
use Rattle.sender.specs.Sender.{new_sending}
use Rattle.receiver.specs.Config as receiving
use Rattle.receiver.specs.Receiver.{begun, state_of}
use Rattle.endpoint.specs.Demultiplex.{is_control}
use Rattle.endpoint.specs.ResendMetering.{meter_following}
use Rattle.timing.specs.declared.playout.Playout.{Playout}
use Rattle.timing.specs.Capped.{capped}
use Rattle.timing.specs.Playout.{new_playout}
use Rattle.relays.specs.declared.bounds.Bounds.{Bounds}
use Rattle.relays.specs.declared.numbering.Numbering.{Numbering}
use Rattle.relays.specs.declared.outside.Side.{Side}
use Rattle.relays.specs.declared.outside.Side.TheVariants.{Near, Far}
use Rattle.relays.specs.declared.relay.Note.{Note}
use Rattle.relays.specs.declared.relay.Note.TheVariants.{Began}
use Rattle.relays.specs.Numbering.{anew}
use Rattle.relays.specs.Pacing.{new_pace}
use Rattle.relays.specs.ReceiveRelay.{MayShow, ReceiveSide, new_receive_side}
use Rattle.timing.specs.FeedbackBudget.{nothing_earned}
use Rattle.relays.specs.LatencyReports.{reports_begun}
use Rattle.relays.specs.Following.{new_stream}
use Rattle.relays.specs.SendRelay.{SendSide, IsOfStream, is_kept_from, new_send_side}
use Rattle.gozdrit_relay.specs.declared.known.Known.{Known}
use Rattle.gozdrit_relay.specs.declared.learners.ReceiveLearner.{ReceiveLearner}
use Rattle.gozdrit_relay.specs.declared.learners.SendLearner.{SendLearner}
use Rattle.gozdrit_relay.specs.declared.machine.Beginning.{Beginning}
use Rattle.gozdrit_relay.specs.Known.{BeginsUnder, given, renewed}

-- Only an RTP packet begins a session, and how is told of the packet that the octets spell.
abbrev pub BeginsWith : (RtpPacket → Option Beginning → Type 0) → (octets : List ℕ) → Option Beginning → Type 0
BeginsWith With octets None = is_control octets ≡ false → (p : RtpPacket) → RtpSpells p octets → With p None
BeginsWith With octets (Some b) = (is_control octets ≡ false) × (p : RtpPacket) × RtpSpells p octets × With p (Some b)

-- one of the session there is begins none
abbrev pub BeginsBeside : (is_of : Bool) → Known → RtpPacket → (ssrc : ℕ) → Option Beginning → Type 0
BeginsBeside true k p ssrc b = b ≡ None
BeginsBeside false k p ssrc b = BeginsUnder k p ssrc b

-- Before a network: a packet of the application that the relay there is would send, or one beside a stream that is bound to another SSRC,
-- begins none.
abbrev pub IsOfSender : Option SendSide → SocketAddr → RtpPacket → (now : ℕ) → Bool → Type 0
IsOfSender None from p now answer = answer ≡ false
IsOfSender (Some r) from p now answer =
    (is_of : Bool) × IsOfStream r from p.ssrc p.payload_type now is_of × (answer ≡ (is_of || is_kept_from r p.ssrc))

abbrev pub SendBeginsOf : SendLearner → (from : SocketAddr) → Option SendSide → (now : ℕ) → RtpPacket → Option Beginning → Type 0
SendBeginsOf l from before now p b =
    (is_of : Bool) × IsOfSender before from p now is_of × BeginsBeside is_of l.known p (given l.known.ssrc p.ssrc) b

abbrev pub SendBegins : SendLearner → Side → (from : SocketAddr) → (octets : List ℕ) → Option SendSide → (now : ℕ) → Option Beginning → Type 0
SendBegins l Far from octets before now b = b ≡ None
SendBegins l Near from octets before now b = BeginsWith (SendBeginsOf l from before now) octets b

-- The stream under the SSRC that an option gives is bound to it. One under another SSRC, which is sent under the option's, is not.
abbrev pub is_bound : (given : Option ℕ) → (ssrc : ℕ) → Bool
is_bound None ssrc = false
is_bound (Some wanted) ssrc = wanted == ssrc

-- what bounds leave for a session after others that had so many packets
abbrev pub packets_left : Option ℕ → (passed : ℕ) → Option ℕ
packets_left None passed = None
packets_left (Some most) passed = Some (most - passed)

abbrev pub bounds_left : Bounds → (passed : ℕ) → Bounds
bounds_left b passed = record b { packets = packets_left b.packets passed }

abbrev pub sent_before : Option SendSide → (passed : ℕ) → ℕ
sent_before None passed = passed
sent_before (Some r) passed = capped (passed + r.counts.sent)

-- a relay that follows the path, if it is to
abbrev pub followed_if : (follows : Bool) → SendSide → SendSide
followed_if follows s = record s { meter = if follows then meter_following else s.meter }

-- The relay sends that stream under that session, to the far side: every reporter is heard, and a packet is retransmitted 255 times at most.
pub record SendMakes (l : SendLearner) (b : Beginning) (before : Option SendSide) (relay : SendSide) (note : Note) (l' : SendLearner) : Type 0 where
  pub is_relay : relay ≡ followed_if l.follows
      (new_send_side (new_sending (sending.config_of b.session (given l.first b.number) l.rtx_first 255 true) (empty_past l.history)) l.rule relay.moments l.far (new_stream b.ssrc (is_bound l.known.ssrc b.ssrc))
      (new_pace l.rate) (bounds_left l.bounds (sent_before before l.passed)))
  pub moments : length relay.moments ≡ l.history
  pub told : note ≡ Began b.session (given l.first b.number) l.far
  pub learner : l' ≡ record l { passed = sent_before before l.passed; known = renewed l.renews l.known }

-- Behind a network: a packet is one of the session that a relay has if it comes from the far side, and is media or a retransmission of it.
abbrev pub IsOfReceiver : ReceiveSide → RtpPacket → (from : SocketAddr) → Bool → Type 0
IsOfReceiver r p from answer =
    (is_far : Bool) × ((is_far ≡ true) ↔ (from ≡ r.far.at))
    × (answer ≡ (is_far && ((p.ssrc == r.core.config.session.media_ssrc) || (p.payload_type == r.core.config.session.repair_type))))

-- It is none of another session either where it may show the far side at another address, with those that come behind it.
abbrev pub IsBelieved : Option ReceiveSide → RtpPacket → (from : SocketAddr) → (octets : List ℕ) → (now : ℕ) → Bool → Type 0
IsBelieved None p from octets now answer = answer ≡ false
IsBelieved (Some r) p from octets now answer =
    (is_of : Bool) × IsOfReceiver r p from is_of × (shows : Bool) × MayShow r octets now shows × (answer ≡ (is_of || shows))

-- under the SSRC that an option gives it has to come
abbrev pub BeginsAs : (is_of : Bool) → Known → RtpPacket → Option Beginning → Type 0
BeginsAs is_of k p b = BeginsBeside (is_of || not (given k.ssrc p.ssrc == p.ssrc)) k p p.ssrc b

abbrev pub ReceiveBeginsOf : ReceiveLearner → (from : SocketAddr) → (octets : List ℕ) → Option ReceiveSide → (now : ℕ) → RtpPacket → Option Beginning → Type 0
ReceiveBeginsOf l from octets before now p b = (is_of : Bool) × IsBelieved before p from octets now is_of × BeginsAs is_of l.known p b

abbrev pub ReceiveBegins : ReceiveLearner → Side → (from : SocketAddr) → (octets : List ℕ) → Option ReceiveSide → (now : ℕ) → Option Beginning → Type 0
ReceiveBegins l Near from octets before now b = b ≡ None
ReceiveBegins l Far from octets before now b = BeginsWith (ReceiveBeginsOf l from octets before now) octets b

-- what sessions before played or gave up
abbrev pub played_before : Option ReceiveSide → (passed : ℕ) → ℕ
played_before None passed = passed
played_before (Some r) passed = capped (capped (passed + r.counts.played) + r.counts.gaps)

-- the player's numbers go on from those of the session before
abbrev pub numbering_for : Option ReceiveSide → (ssrc : ℕ) → Numbering
numbering_for None ssrc = record { ssrc = ssrc; shift = 0; next = None; is_anew = false }
numbering_for (Some r) ssrc = anew r.numbering

abbrev pub held_by : Option ℕ → Option Playout
held_by None = None
held_by (Some rate) = Some (new_playout rate)

-- How far asks lie apart until a round trip was measured: a quarter of the latency, but 20 milliseconds at least and 250 at most.
abbrev pub first_retry : (latency : ℕ) → ℕ
first_retry latency = min (max (latency / 4) 20) 250

-- A missing packet is waited for as long as the latency; it is asked for after 20 milliseconds, and 255 times at most. The SSRC of the
-- retransmissions is learnt where no option gives it.
abbrev pub learns_rtx : Option ℕ → Bool
learns_rtx None = true
learns_rtx (Some ssrc) = false

abbrev pub config_for : ReceiveLearner → Streams → receiving.Config
config_for l session = receiving.config_with session l.latency 20 (first_retry l.latency) 255 (learns_rtx l.known.rtx_ssrc)

abbrev pub receiver_for : ReceiveLearner → Beginning → (from : SocketAddr) → Option ReceiveSide → ReceiveSide
receiver_for l b from before =
    record (new_receive_side (config_for l b.session) l.window from l.player (numbering_for before b.ssrc) (held_by l.hold) (bounds_left l.bounds (played_before before l.passed))) { budget = Some nothing_earned; reports = Some reports_begun }

-- The first session begins with the first number that an option gives, so that what is lost before its first packet is missing too.
abbrev pub BeginsAt : (first : Option ℕ) → (before : Option ReceiveSide) → (made relay : ReceiveSide) → Type 0
BeginsAt (Some first) None made relay = relay ≡ record made { core = begun made.core (65536 + first) }
BeginsAt first before made relay = relay ≡ made

pub record ReceiveMakes (l : ReceiveLearner) (b : Beginning) (from : SocketAddr) (before : Option ReceiveSide) (relay : ReceiveSide) (note : Note) (l' : ReceiveLearner) : Type 0 where
  pub is_relay : BeginsAt l.first before (receiver_for l b from before) relay
  pub told : note ≡ Began b.session (given l.first b.number) from
  pub learner : l' ≡ record l { passed = played_before before l.passed }

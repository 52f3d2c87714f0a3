-- What a receiver answers to a datagram, by the packet that its octets spell. This is the table of checks, in its
-- order; the first that fails is the answer, and a refusal changes nothing:
--
--     1 to 5     the octets are no packet                      `ReadsPacket`
--     31, 32     the SSRC, then the type, is no stream's       `stream_of`
--     6          a retransmission has no original number       `HearsStream`
--     37         no content holds what is carried              `TakesCarried`
--     33         a retransmission before the start             `TakesNumber`
--     34, 39     no place has the original number              `AnswersNumber`
--     38         the stream is to be learnt, and the place     `AnswersCandidate`
--                is not missing and asked for
--     35, 36     the place is passed, or held already          `AnswersPlace`
use Rattle.std.specs.Prelude.{◌≡◌, ◌⊎◌, ℕ, ◌+◌, ◌^◌, ◌<◌, ◌≤◌, List, length, Option, Some, None, IsSomeAnd, Result, Ok, Err}
use Rattle.places.specs.Place.{IsNear, IsFar, IsPastEnd}
use Rattle.places.specs.declared.nearness.PlaceFault.TheVariants.{Far, PastEnd}
use Rattle.rtpwire.specs.declared.content.Content.{Content}
use Rattle.rtpwire.specs.declared.fault.RtpFault.{RtpFault}
use Rattle.rtpwire.specs.declared.fault.RtpFault.TheVariants.{NoOsn}
use Rattle.rtpwire.specs.declared.fault.ContentFault.TheVariants.{TooLong}
use Rattle.rtpwire.specs.Rtp.{RtpPacket, RtpSpells}
use Rattle.rtpwire.specs.RtpChecks.{rtp_fault}
use Rattle.rtpwire.specs.Content.{IsTooLong, packet_of}
use Rattle.rtpwire.specs.Retransmission.{IsRepair}
use Rattle.receiver.specs.Config.{Config}
use Rattle.receiver.specs.declared.answer.Taken.{Taken}
use Rattle.receiver.specs.declared.fault.ReceiveFault.{ReceiveFault}
use Rattle.receiver.specs.declared.fault.ReceiveFault.TheVariants as refused
use Rattle.receiver.specs.declared.stream.Stream.{Stream}
use Rattle.receiver.specs.declared.stream.Stream.TheVariants.{Media, Repair, Candidate}
use Rattle.receiver.specs.Window.{Missed, ReceiverState, StartsAt, AnswersPlace}
use Rattle.receiver.specs.Streams.{source_of, stream_of}

-- the place was noticed to be missing, and was asked for
abbrev pub WasAsked : Option Missed → Type 0
WasAsked m = IsSomeAnd m (λ missed. 1 ≤ missed.asks)

-- What a started receiver answers to a retransmission under an SSRC that may be learnt. It takes what it asked
-- for, and has learnt the SSRC until it restarts. (A place that is missing is neither passed nor held, so 35 and 36 don't
-- occur.)
abbrev pub AnswersCandidate : (ssrc room : ℕ) → ReceiverState → (place : ℕ) → Content → (now : ℕ) → Result Taken ReceiveFault → Option ReceiverState → Type 0
AnswersCandidate ssrc room old place content now (Ok taken) new =
    WasAsked (old.missing place) × AnswersPlace room (record old { learnt = Some ssrc }) place content now (Ok taken) new
AnswersCandidate ssrc room old place content now (Err refused.Unasked) new = (WasAsked (old.missing place) → ⊥) × (new ≡ Some old)
AnswersCandidate ssrc room old place content now (Err fault) new = ⊥

-- What a started receiver answers to a content at its place, by the stream that it came in. A retransmission is
-- exactly what the media packet of that place would have been.
abbrev pub AnswersIn : (room : ℕ) → Stream → ReceiverState → (place : ℕ) → Content → (now : ℕ) → Result Taken ReceiveFault → Option ReceiverState → Type 0
AnswersIn room Media old place content now answer new = AnswersPlace room old place content now answer new
AnswersIn room Repair old place content now answer new = AnswersPlace room old place content now answer new
AnswersIn room (Candidate ssrc) old place content now answer new = AnswersCandidate ssrc room old place content now answer new

-- what a started receiver answers to a content with this sequence number of its original packet
abbrev pub AnswersNumber : (room : ℕ) → Stream → ReceiverState → (seq : ℕ) → Content → (now : ℕ) → Result Taken ReceiveFault → Option ReceiverState → Type 0
AnswersNumber room stream old seq content now answer new =
    (IsFar old.highest seq × (answer ≡ Err (refused.Place Far)) × (new ≡ Some old))
    ⊎ (IsPastEnd old.highest seq × (answer ≡ Err (refused.Place PastEnd)) × (new ≡ Some old))
    ⊎ ((place : ℕ) × IsNear old.highest seq place × (place < 2 ^ 48) × AnswersIn room stream old place content now answer new)

-- what a receiver that took nothing answers: media starts it, at the place one cycle above the sequence number;
-- a retransmission never does
abbrev pub StartsIn : Stream → (seq : ℕ) → Content → Result Taken ReceiveFault → Option ReceiverState → Type 0
StartsIn Media seq content answer new = StartsAt (65536 + seq) content answer new
StartsIn Repair seq content answer new = (answer ≡ Err refused.NotStarted) × (new ≡ None)
StartsIn (Candidate ssrc) seq content answer new = (answer ≡ Err refused.NotStarted) × (new ≡ None)

abbrev pub TakesNumber : (room : ℕ) → Stream → Option ReceiverState → (seq : ℕ) → Content → (now : ℕ) → Result Taken ReceiveFault → Option ReceiverState → Type 0
TakesNumber room stream None seq content now answer new = StartsIn stream seq content answer new
TakesNumber room stream (Some old) seq content now answer new = AnswersNumber room stream old seq content now answer new

-- What is carried: no content holds it, or its content is taken by its sequence number. (The second case says
-- that it isn't too long, as a content has no bound here.)
abbrev pub TakesCarried : (room : ℕ) → Stream → Option ReceiverState → (seq : ℕ) → RtpPacket → (now : ℕ) → Result Taken ReceiveFault → Option ReceiverState → Type 0
TakesCarried room stream old seq p now answer new =
    (IsTooLong p × (answer ≡ Err (refused.Content TooLong)) × (new ≡ old))
    ⊎ ((IsTooLong p → ⊥) × (content : Content) × (packet_of content p.padding p.sequence p.payload_type p.ssrc ≡ p) × TakesNumber room stream old seq content now answer new)

-- A packet of a stream carries a packet with this original sequence number: a media packet itself, a
-- retransmission the original payload behind its number (RFC 4588, section 4).
abbrev pub Carries : Stream → RtpPacket → (seq : ℕ) → RtpPacket → Type 0
Carries Media p seq carried = (seq ≡ p.sequence) × (carried ≡ p)
Carries Repair p seq carried = IsRepair (record { original = seq; packet = carried }) p
Carries (Candidate ssrc) p seq carried = IsRepair (record { original = seq; packet = carried }) p

-- it has no room for an original sequence number (its padding is no payload)
abbrev pub IsTooShort : Stream → RtpPacket → Type 0
IsTooShort Media p = ⊥
IsTooShort Repair p = length p.payload < 2
IsTooShort (Candidate ssrc) p = length p.payload < 2

abbrev pub HearsStream : (room : ℕ) → Option ReceiverState → RtpPacket → (now : ℕ) → Result Stream ReceiveFault → Result Taken ReceiveFault → Option ReceiverState → Type 0
HearsStream room old p now (Ok stream) answer new =
    (IsTooShort stream p × (answer ≡ Err (refused.Rtp NoOsn)) × (new ≡ old))
    ⊎ ((seq : ℕ) × (carried : RtpPacket) × Carries stream p seq carried × TakesCarried room stream old seq carried now answer new)
HearsStream room old p now (Err fault) answer new = (answer ≡ Err fault) × (new ≡ old)

-- what octets say: a packet, or the first check that they fail
abbrev pub ReadsPacket : List ℕ → Result RtpPacket RtpFault → Type 0
ReadsPacket octets (Ok p) = RtpSpells p octets
ReadsPacket octets (Err fault) = rtp_fault octets ≡ Some fault

abbrev pub HearsSaid : (room : ℕ) → Config → Option ReceiverState → Result RtpPacket RtpFault → (now : ℕ) → Result Taken ReceiveFault → Option ReceiverState → Type 0
HearsSaid room c old (Ok p) now answer new = HearsStream room old p now (stream_of c.session (source_of c old) p) answer new
HearsSaid room c old (Err fault) now answer new = (answer ≡ Err (refused.Rtp fault)) × (new ≡ old)

-- One datagram at a receiver of so much room.
pub record Hears (room : ℕ) (c : Config) (old : Option ReceiverState) (octets : List ℕ) (now : ℕ) (answer : Result Taken ReceiveFault) (new : Option ReceiverState) : Type 0 where
  pub said : Result RtpPacket RtpFault
  pub says : ReadsPacket octets said
  pub heard : HearsSaid room c old said now answer new

-- What follows for a caller that has no interest in octets: a datagram that is taken spells a packet of one of the
-- streams, and what it carries is taken by its original sequence number.
pub record TakesSpelled (room : ℕ) (c : Config) (old : Option ReceiverState) (octets : List ℕ) (now : ℕ) (taken : Taken) (new : Option ReceiverState) : Type 0 where
  pub packet : RtpPacket
  pub spelled : RtpSpells packet octets
  pub stream : Stream
  pub is_stream : stream_of c.session (source_of c old) packet ≡ Ok stream
  pub seq : ℕ
  pub carried : RtpPacket
  pub carries : Carries stream packet seq carried
  pub content : Content
  pub held : packet_of content carried.padding carried.sequence carried.payload_type carried.ssrc ≡ carried
  pub takes : TakesNumber room stream old seq content now (Ok taken) new

abbrev pub TakesOrRefuses : (room : ℕ) → Config → Option ReceiverState → (octets : List ℕ) → (now : ℕ) → Result Taken ReceiveFault → Option ReceiverState → Type 0
TakesOrRefuses room c old octets now (Ok taken) new = TakesSpelled room c old octets now taken new
TakesOrRefuses room c old octets now (Err fault) new = new ≡ old

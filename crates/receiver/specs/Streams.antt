-- The streams that go to a receiver (RFC 4588, section 5.3, SSRC multiplexing), and which of them a packet is of.
-- Learning the SSRC of the retransmissions is a choice of this project.
use Rattle.std.specs.Prelude.{ℕ, ◌==◌, Option, Some, None, Result, Ok, Err, if◌then◌else◌}
use Rattle.rtpwire.specs.Rtp.{RtpPacket}
use Rattle.rtpwire.specs.Session.{Streams}
use Rattle.receiver.specs.Config.{Config}
use Rattle.receiver.specs.Window.{ReceiverState}
use Rattle.receiver.specs.declared.fault.ReceiveFault.{ReceiveFault}
use Rattle.receiver.specs.declared.fault.ReceiveFault.TheVariants as refused
use Rattle.receiver.specs.declared.stream.Stream.{Stream}
use Rattle.receiver.specs.declared.stream.Stream.TheVariants.{Media, Repair, Candidate}

-- what a receiver learnt: nothing before its start
abbrev pub learnt_by : Option ReceiverState → Option ℕ
learnt_by None = None
learnt_by (Some old) = old.learnt

-- the SSRC of the retransmissions, as far as the receiver knows it
abbrev pub known_to : (c : Config) → (learnt : Option ℕ) → Option ℕ
known_to c learnt = if c.learns then learnt else Some c.session.repair_ssrc

abbrev pub source_of : Config → Option ReceiverState → Option ℕ
source_of c old = known_to c (learnt_by old)

-- The stream of an SSRC that isn't the media's: where the SSRC of the retransmissions is known, it is that; else
-- any but the receiver's own may be learnt.
abbrev pub repair_under : Streams → (source : Option ℕ) → (ssrc : ℕ) → Option Stream
repair_under s (Some known) ssrc = if ssrc == known then Some Repair else None
repair_under s None ssrc = if ssrc == s.receiver_ssrc then None else Some (Candidate ssrc)

abbrev pub stream_under : Streams → (source : Option ℕ) → (ssrc : ℕ) → Option Stream
stream_under s source ssrc = if ssrc == s.media_ssrc then Some Media else repair_under s source ssrc

-- the payload type of a stream
abbrev pub type_of : Streams → Stream → ℕ
type_of s Media = s.media_type
type_of s Repair = s.repair_type
type_of s (Candidate ssrc) = s.repair_type

abbrev pub typed : Streams → (payload_type : ℕ) → Option Stream → Result Stream ReceiveFault
typed s payload_type None = Err refused.UnknownSource
typed s payload_type (Some stream) = if payload_type == type_of s stream then Ok stream else Err refused.UnknownType

-- the stream of a packet, by its SSRC (31) and then its payload type (32), or why it is of none
abbrev pub stream_of : Streams → (source : Option ℕ) → RtpPacket → Result Stream ReceiveFault
stream_of s source p = typed s p.payload_type (stream_under s source p.ssrc)

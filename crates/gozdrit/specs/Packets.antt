-- What the calls answer to C that read and write one RTP packet.
use Rattle.std.specs.Prelude.{◌≡◌, ◌≢◌, ◌⊎◌, ℕ, ◌+◌, ◌<◌, ◌≤◌, ℤ, pos, List, [], length, Some, Result, Ok, Err}
use Rattle.rtpwire.specs.declared.content.Content.{Content}
use Rattle.rtpwire.specs.declared.fault.RtpFault.{RtpFault}
use Rattle.rtpwire.specs.Buffer.{in_front}
use Rattle.rtpwire.specs.Content.{packet_of, IsTooLong}
use Rattle.rtpwire.specs.Fault.{rtp_number}
use Rattle.rtpwire.specs.Rtp.{RtpPacket, RtpSpells, written}
use Rattle.rtpwire.specs.RtpChecks.{rtp_fault}
use Rattle.gozdrit.specs.declared.packets.PacketFields.{PacketFields}
use Rattle.gozdrit.specs.Codes.{ok, bad_type, padded_empty, too_large, too_long, no_room}
use Rattle.gozdrit.specs.Packet.{Fits, IsContent, TellsHeader}

-- a packet without its payload: what its header says, and its padding
abbrev pub without_payload : RtpPacket → RtpPacket
without_payload p = record p { payload = [] }

-- A packet is told: its header, its numbers, and where its payload lies.
pub record TellsPacket (p : RtpPacket) (octets : List ℕ) (old new : PacketFields) : Type 0 where
  pub content : Content
  pub is_its : packet_of content p.padding p.sequence p.payload_type p.ssrc ≡ without_payload p
  pub header : TellsHeader old.header content new.header
  pub ssrc : new.ssrc ≡ p.ssrc
  pub sequence : new.sequence ≡ p.sequence
  pub payload_type : new.payload_type ≡ p.payload_type
  pub padding : new.padding ≡ p.padding
  pub length_is : new.length ≡ length p.payload
  pub at : new.payload + new.length + new.padding ≡ length octets

-- what was read: a packet that the octets spell, or the first check that they fail
abbrev pub IsRead : List ℕ → Result RtpPacket RtpFault → Type 0
IsRead octets (Ok p) = RtpSpells p octets
IsRead octets (Err fault) = rtp_fault octets ≡ Some fault

-- The octets are no packet (1 to 5), or its header extension is longer than a header has room for (37), or it is told.
abbrev pub TellsRead : Result RtpPacket RtpFault → List ℕ → PacketFields → (code : ℤ) → PacketFields → Type 0
TellsRead (Err fault) octets packet code packet' = code ≡ pos (rtp_number fault)
TellsRead (Ok p) octets packet code packet' =
    (IsTooLong (without_payload p) × (code ≡ too_long))
    ⊎ ((IsTooLong (without_payload p) → ⊥) × (code ≡ ok) × TellsPacket p octets packet packet')

-- `gozdrit_rtp_read`
pub record AnswersRead (octets : List ℕ) (packet : PacketFields) (code : ℤ) (packet' : PacketFields) : Type 0 where
  pub read : Result RtpPacket RtpFault
  pub is_read : IsRead octets read
  pub tells : TellsRead read octets packet code packet'
  pub refused : code ≢ ok → packet' ≡ packet

-- the packet's octets, at the front of the buffer where it has room for them
abbrev pub octets_of : PacketFields → Content → List ℕ
octets_of packet content = written (packet_of content packet.padding packet.sequence packet.payload_type packet.ssrc)

-- it can be written: a type of seven bits, and padding only behind a payload
pub record IsWritable (packet : PacketFields) (payload : List ℕ) : Type 0 where
  pub payload_type : packet.payload_type ≤ 127
  pub padded : 0 < packet.padding → payload ≢ []

-- What becomes of a content: no room for its packet (75), a type above 127 (51), padding without a payload (44), or its octets.
pub record Writes (packet : PacketFields) (payload : List ℕ) (content : Content) (count : ℕ) (out : List ℕ) (code : ℤ) (count' : ℕ) (out' : List ℕ) : Type 0 where
  pub short : length out < length (octets_of packet content) → code ≡ no_room
  pub high : length (octets_of packet content) ≤ length out → 127 < packet.payload_type → code ≡ bad_type
  pub padded : length (octets_of packet content) ≤ length out → packet.payload_type ≤ 127 → 0 < packet.padding → payload ≡ [] → code ≡ padded_empty
  pub written_so : length (octets_of packet content) ≤ length out → IsWritable packet payload
      → (code ≡ ok) × (count' ≡ length (octets_of packet content)) × (out' ≡ in_front (octets_of packet content) out)

-- `gozdrit_rtp_write`
pub record AnswersWrite (packet : PacketFields) (payload : List ℕ) (count : ℕ) (out : List ℕ) (code : ℤ) (count' : ℕ) (out' : List ℕ) : Type 0 where
  pub large : (Fits packet.header payload → ⊥) → code ≡ too_large
  pub writes : Fits packet.header payload → (content : Content) × IsContent packet.header payload content × Writes packet payload content count out code count' out'
  pub refused : code ≢ ok → (count' ≡ count) × (out' ≡ out)

-- A retransmission as octets (RFC 4588, section 4): an RTP packet whose payload is the original packet's
-- sequence number, in two octets, and then the original payload.
use Rattle.std.specs.Prelude.{◌≡◌, ℕ, ◌^◌, ◌<◌, List, ◌++◌}
use Rattle.byteorder.specs.Endian.{big_bytes, big_number}
use Rattle.rtpwire.specs.declared.content.Content.{Content}
use Rattle.rtpwire.specs.Rtp.{RtpPacket, RtpSpells}
use Rattle.rtpwire.specs.Content.{packet_of}

-- what a retransmission says
pub record Repair : Type 0 where
  pub original : ℕ  -- the original packet's sequence number
  pub packet : RtpPacket  -- the retransmission's own packet, with the original payload alone

-- the packet as it is sent
abbrev pub repair_packet : Repair → RtpPacket
repair_packet r = record r.packet { payload = big_bytes 2 r.original ++ r.packet.payload }

-- the packet is this retransmission
pub record IsRepair (r : Repair) (packet : RtpPacket) : Type 0 where
  pub original : r.original < 2 ^ 16
  pub sent : packet ≡ repair_packet r

-- The retransmission of a content has its timestamp, marker, sources and extension, and no padding.
abbrev pub repair_of : Content → (original sequence payload_type ssrc : ℕ) → Repair
repair_of content original sequence payload_type ssrc =
    record { original = original; packet = packet_of content 0 sequence payload_type ssrc }

-- The octets spell the retransmission of a content under these numbers.
pub record RepairSpells (content : Content) (original sequence payload_type ssrc : ℕ) (octets : List ℕ) : Type 0 where
  pub number : original < 2 ^ 16
  pub spelled : RtpSpells (repair_packet (repair_of content original sequence payload_type ssrc)) octets

-- the number of the original that a retransmission's payload begins with: its first two octets
abbrev pub original_in : List ℕ → ℕ
original_in payload = big_number 2 payload

-- a packet as a retransmission with this number of an original and this original payload
abbrev pub repair_with : RtpPacket → ℕ → List ℕ → Repair
repair_with packet original payload = record { original = original; packet = record packet { payload = payload } }

-- The text of a trace: one line for each datagram, by what its octets spell.
use Rattle.std.specs.Prelude.{◌≡◌, ◌≢◌, ℕ, ◌<◌, ◌≤◌, List, [], ◌∷◌, ◌++◌, length, map, slice_index, codes, Some}
use Rattle.std.specs.Fmt.{decimal}
use Rattle.byteorder.specs.Endian.{big_bytes}
use Rattle.hex.specs.Hex.{encode_lower}
use Rattle.rtpwire.specs.declared.fault.RtpFault.{RtpFault}
use Rattle.rtpwire.specs.declared.fault.RtpFault.TheVariants.{NoOsn}
use Rattle.rtpwire.specs.Fault.{rtp_number}
use Rattle.rtpwire.specs.Rtp.{RtpPacket, RtpSpells}
use Rattle.rtpwire.specs.RtpChecks.{rtp_fault}
use Rattle.rtpwire.specs.Retransmission.{Repair, IsRepair}
use Rattle.fbwire.specs.declared.fault.FeedbackFault.{FeedbackFault}
use Rattle.fbwire.specs.declared.nack.Pair.{Pair}
use Rattle.fbwire.specs.Fault.{feedback_number}
use Rattle.fbwire.specs.Nack.{Nack}
use Rattle.fbwire.specs.Compound.{CompoundSpells}
use Rattle.fbwire.specs.CompoundChecks.{IsRefused}
use Rattle.world.specs.Session.{trial_session}
use Rattle.lines.specs.ContentText.{octets_text, sources_text, extension_text, marker_text}
use Rattle.lines.specs.Line.{joined, line_of, refused_line}

-- an SSRC by eight hexadecimal digits
abbrev pub ssrc_text : ℕ → List ℕ
ssrc_text ssrc = encode_lower (big_bytes 4 ssrc)

-- the header of a packet, as words
abbrev pub header_words : RtpPacket → List (List ℕ)
header_words p =
    decimal p.payload_type
    ∷ decimal p.sequence
    ∷ ssrc_text p.ssrc
    ∷ decimal p.timestamp
    ∷ marker_text p.marker
    ∷ decimal p.padding
    ∷ []

-- what it carries, as words
abbrev pub carried_words : RtpPacket → List (List ℕ)
carried_words p = octets_text p.payload ∷ sources_text p.sources ∷ extension_text p.extension ∷ []

-- `rtp TYPE SEQUENCE SSRC TIMESTAMP MARKER PADDING PAYLOAD CSRC EXT`
abbrev pub rtp_line : RtpPacket → List ℕ
rtp_line p = line_of (codes "rtp" ∷ header_words p ++ carried_words p)

-- `rtx TYPE SEQUENCE SSRC TIMESTAMP MARKER PADDING ORIGINAL PAYLOAD CSRC EXT`, with the original payload alone
abbrev pub rtx_line : Repair → List ℕ
rtx_line r = line_of (codes "rtx" ∷ header_words r.packet ++ decimal r.original ∷ carried_words r.packet)

-- `PID:BLP`, by four hexadecimal digits each
abbrev pub pair_text : Pair → List ℕ
pair_text p = encode_lower (big_bytes 2 p.pid) ++ codes ":" ++ encode_lower (big_bytes 2 p.blp)

-- `nack REPORTER MEDIA PID:BLP ..`
abbrev pub nack_text : Nack → List ℕ
nack_text n = joined (codes "nack" ∷ ssrc_text n.reporter ∷ ssrc_text n.media ∷ map pair_text n.pairs)

-- the NACKs of a compound datagram, all on one line
abbrev pub nacks_line : List Nack → List ℕ
nacks_line nacks = line_of (map nack_text nacks)

-- RTP and RTCP are told apart by the second octet: the packet types of RTCP (RFC 3550, section 12.1; RFC 4585,
-- section 6.1) are 200 to 206. A marked RTP packet of the types 72 to 78 has such an octet too; it is read as RTCP.
pub record IsFeedback (octets : List ℕ) : Type 0 where
  pub long : 2 ≤ length octets
  pub low : 200 ≤ slice_index octets 1
  pub high : slice_index octets 1 ≤ 206

-- the payload type of retransmissions
abbrev pub repair_type : ℕ
repair_type = trial_session.repair_type

-- The line of an RTP packet: as a packet, or where it has the type of retransmissions, as what it retransmits, or the
-- number of the refusal where it has no room for an original's sequence number.
pub data ShowsPacket (p : RtpPacket) : List ℕ → Type 0 where
  packet : p.payload_type ≢ repair_type → ShowsPacket p (rtp_line p)
  repair : (r : Repair) → p.payload_type ≡ repair_type → IsRepair r p → ShowsPacket p (rtx_line r)
  no_repair : p.payload_type ≡ repair_type → length p.payload < 2 → ShowsPacket p (refused_line (rtp_number NoOsn))

-- The line of a datagram: what its octets spell, or the number of the check for which they are refused.
pub data Shows (octets : List ℕ) : List ℕ → Type 0 where
  feedback : (nacks : List Nack) → IsFeedback octets → CompoundSpells nacks octets → Shows octets (nacks_line nacks)
  no_feedback : (fault : FeedbackFault) → IsFeedback octets → IsRefused octets fault → Shows octets (refused_line (feedback_number fault))
  media : (p : RtpPacket) (line : List ℕ) → (IsFeedback octets → ⊥) → RtpSpells p octets → ShowsPacket p line → Shows octets line
  no_media : (fault : RtpFault) → (IsFeedback octets → ⊥) → rtp_fault octets ≡ Some fault → Shows octets (refused_line (rtp_number fault))

-- The text of a trace: the lines of its datagrams, one after another.
abbrev pub ShowsAll : List (List ℕ) → List ℕ → Type 0
ShowsAll [] text = text ≡ []
ShowsAll (octets ∷ others) text = (line : List ℕ) × (more : List ℕ) × Shows octets line × ShowsAll others more × (text ≡ line ++ more)

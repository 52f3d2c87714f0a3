-- The payload type of a packet is in its second octet (RFC 3550, section 5.1).
use Rattle.std.proofs.Common.{◌≡◌, ℕ, ◌+◌, ◌*◌, ◌%◌, ◌<◌, ◌≤◌, Bool, true, false, List, length, slice_index, arith, ap, ◌∙◌}
use Rattle.rtpwire.specs.Rtp.{RtpPacket, RtpSpells, bit}

-- a marker and a type beside it
beside : (marker : Bool) (t : ℕ) → t < 128 → (128 * bit marker + t) % 128 ≡ t
beside true t fits = omega arith
beside false t fits = omega arith

pub two_octets : (p : RtpPacket) (octets : List ℕ) → RtpSpells p octets → 2 ≤ length octets
two_octets p octets spells = rw spells.spelled (omega arith)

pub typed_in : (p : RtpPacket) (octets : List ℕ) → RtpSpells p octets → slice_index octets 1 % 128 ≡ p.payload_type
typed_in p octets spells = ap (λ (xs : List ℕ). slice_index xs 1 % 128) spells.spelled ∙ beside p.marker p.payload_type spells.packet.payload_type

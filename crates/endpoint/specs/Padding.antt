-- A packet that is all padding (RFC 3550, section 5.1), and the same packet without it.
use Rattle.std.specs.Prelude.{◌≡◌, ◌≢◌, ℕ, ◌-◌, ◌<◌, ◌≤◌, List, [], length, take, slice_index, slice_set, bit_and}
use Rattle.rtpwire.specs.declared.limits.TheConstants.{MAX_DATAGRAM}
use Rattle.rtpwire.specs.Rtp.{RtpPacket, RtpSpells}

-- the octets are a packet with an empty payload, and no padding
pub record IsEmptyPacket (octets : List ℕ) : Type 0 where
  pub packet : RtpPacket
  pub spelled : RtpSpells packet octets
  pub empty : packet.payload ≡ []
  pub plain : packet.padding ≡ 0

-- how many octets of padding there are, if there is any: the last octet
abbrev pub padding_count : List ℕ → ℕ
padding_count octets = slice_index octets (length octets - 1)

-- The octets say that they are padded, and what stands before the padding is a packet with an empty payload, once the bit
-- of the first octet that says so is cleared.
pub record IsStripped (octets plain : List ℕ) : Type 0 where
  pub padded : bit_and (slice_index octets 0) 32 ≢ 0
  pub some : 0 < padding_count octets
  pub fewer : padding_count octets < length octets
  pub fits : length octets - padding_count octets ≤ MAX_DATAGRAM
  pub is : plain ≡ slice_set (take (length octets - padding_count octets) octets) 0 (bit_and (slice_index octets 0) 223)
  pub empty : IsEmptyPacket plain

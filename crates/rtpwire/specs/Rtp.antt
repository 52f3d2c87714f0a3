-- An RTP packet as octets (RFC 3550, sections 5.1 and 5.3.1). Octets are numbers, and `big_bytes n x`
-- is the number x in n octets in network order.
use Rattle.std.specs.Prelude.{◌≡◌, ℕ, Bool, ◌+◌, ◌-◌, ◌*◌, ◌^◌, ◌<◌, ◌≤◌, nat_lt, List, [], ◌∷◌, ◌++◌, length, replicate, slice_index, ◌==◌, All, Option, Some, None, is_some, IfSome, if◌then◌else◌}
use Rattle.std.specs.List.{flat_map}
use Rattle.byteorder.specs.Endian.{big_bytes}
use Rattle.rtpwire.specs.declared.limits.TheConstants.{MAX_SOURCES}

-- octets
abbrev pub AreOctets : List ℕ → Type 0
AreOctets octets = All (λ o. o < 2 ^ 8) octets

-- words of 32 bits
abbrev pub AreWords : List ℕ → Type 0
AreWords words = All (λ w. w < 2 ^ 32) words

-- what a packet says
pub record RtpPacket : Type 0 where
  pub marker : Bool
  pub payload_type : ℕ
  pub sequence : ℕ
  pub timestamp : ℕ
  pub ssrc : ℕ
  pub sources : List ℕ  -- the CSRC list
  pub extension : Option (ℕ × List ℕ)  -- what the profile defines, and the words of 32 bits
  pub payload : List ℕ
  pub padding : ℕ  -- how many octets of padding there are, their count included; 0 for none

-- a flag as a bit
abbrev pub bit : Bool → ℕ
bit flag = if flag then 1 else 0

-- the version, 2, in two bits; P; X; and CC in four bits
abbrev pub first_octet : RtpPacket → ℕ
first_octet p = 2 * 64 + 32 * bit (nat_lt 0 p.padding) + 16 * bit (is_some p.extension) + length p.sources

-- M, and the payload type in seven bits
abbrev pub second_octet : RtpPacket → ℕ
second_octet p = 128 * bit p.marker + p.payload_type

-- the first twelve octets
abbrev pub fixed_header : RtpPacket → List ℕ
fixed_header p =
    first_octet p ∷ second_octet p ∷ big_bytes 2 p.sequence ++ big_bytes 4 p.timestamp ++ big_bytes 4 p.ssrc

-- words of 32 bits, one after another
abbrev pub word_octets : List ℕ → List ℕ
word_octets words = flat_map (big_bytes 4) words

-- the header extension, if there is one: 16 bits that the profile defines, the number of words, the words
abbrev pub extension_octets : Option (ℕ × List ℕ) → List ℕ
extension_octets None = []
extension_octets (Some e) = big_bytes 2 e.0 ++ big_bytes 2 (length e.1) ++ word_octets e.1

abbrev pub header : RtpPacket → List ℕ
header p = fixed_header p ++ word_octets p.sources ++ extension_octets p.extension

-- all of a packet but its padding
abbrev pub unpadded : RtpPacket → List ℕ
unpadded p = header p ++ p.payload

-- so many octets of padding: any octets, of which the last is their count
pub record IsPadding (count : ℕ) (octets : List ℕ) : Type 0 where
  pub are_octets : AreOctets octets
  pub as_long : length octets ≡ count
  pub counted : 0 < count → slice_index octets (count - 1) ≡ count

-- what a header extension can hold
pub record IsExtension (e : ℕ × List ℕ) : Type 0 where
  pub profile : e.0 < 2 ^ 16
  pub count : length e.1 < 2 ^ 16
  pub words : AreWords e.1

-- What the fields of a packet can hold. Padding needs a payload (a choice of this project: the standard
-- leaves open whether a packet may be all padding).
pub record IsPacket (p : RtpPacket) : Type 0 where
  pub payload_type : p.payload_type < 128
  pub sequence : p.sequence < 2 ^ 16
  pub timestamp : p.timestamp < 2 ^ 32
  pub ssrc : p.ssrc < 2 ^ 32
  pub source_count : length p.sources ≤ MAX_SOURCES
  pub sources : AreWords p.sources
  pub extension : IfSome p.extension IsExtension
  pub payload : AreOctets p.payload
  pub padding : p.padding < 2 ^ 8
  pub padded : 0 < p.padding → 0 < length p.payload

-- The octets spell the packet.
pub record RtpSpells (p : RtpPacket) (octets : List ℕ) : Type 0 where
  pub packet : IsPacket p
  pub padding : List ℕ
  pub padded : IsPadding p.padding padding
  pub spelled : octets ≡ unpadded p ++ padding

-- Padding as this project writes it: zeros, and the count.
abbrev pub written_padding : ℕ → List ℕ
written_padding count = if count == 0 then [] else replicate (count - 1) 0 ++ count ∷ []

-- Of the spellings of a packet, the one that is written.
abbrev pub written : RtpPacket → List ℕ
written p = unpadded p ++ written_padding p.padding

-- Which octets are no RTP packet, and which check they fail first. The checks read the octets where
-- RFC 3550, section 5.1 and appendix A.1, has each field.
use Rattle.std.specs.Prelude.{ℕ, Bool, ◌+◌, ◌-◌, ◌*◌, ◌/◌, ◌%◌, ◌==◌, ◌&&◌, ◌||◌, not, nat_lt, nat_le, List, length, drop, slice_index, Option, Some, None, if◌then◌else◌}
use Rattle.byteorder.specs.Endian.{big_number}
use Rattle.rtpwire.specs.declared.fault.RtpFault.{RtpFault}
use Rattle.rtpwire.specs.declared.fault.RtpFault.TheVariants.{Short, Version, CsrcList, Extension, Padding}

-- the fields of the first octet: V, P, X and CC
abbrev pub version_of : List ℕ → ℕ
version_of octets = slice_index octets 0 / 64

abbrev pub is_padded : List ℕ → Bool
is_padded octets = slice_index octets 0 / 32 % 2 == 1

abbrev pub is_extended : List ℕ → Bool
is_extended octets = slice_index octets 0 / 16 % 2 == 1

abbrev pub source_count : List ℕ → ℕ
source_count octets = slice_index octets 0 % 16

-- where the CSRC list ends
abbrev pub sources_end : List ℕ → ℕ
sources_end octets = 12 + 4 * source_count octets

-- how many words the header extension has
abbrev pub word_count : List ℕ → ℕ
word_count octets = big_number 2 (drop (sources_end octets + 2) octets)

-- where the header ends, with the extension if there is one: it has four octets and its words
abbrev pub header_end : List ℕ → ℕ
header_end octets =
    if is_extended octets then sources_end octets + 4 + 4 * word_count octets else sources_end octets

-- the last octet of a padded packet counts the octets of padding
abbrev pub padding_count : List ℕ → ℕ
padding_count octets = if is_padded octets then slice_index octets (length octets - 1) else 0

-- the padding has no octets, or leaves none of those after the header to the payload
abbrev pub has_bad_padding : List ℕ → Bool
has_bad_padding octets =
    is_padded octets
    && (padding_count octets == 0 || nat_le (length octets - header_end octets) (padding_count octets))

-- The first check that the octets fail. (Where the four octets of an extension don't fit, the header
-- ends past the octets too, whatever its number of words is read as.)
abbrev pub rtp_fault : List ℕ → Option RtpFault
rtp_fault octets =
    if nat_lt (length octets) 12
    then Some Short
    else (if not (version_of octets == 2)
    then Some Version
    else (if nat_lt (length octets) (sources_end octets)
    then Some CsrcList
    else (if nat_lt (length octets) (header_end octets)
    then Some Extension
    else (if has_bad_padding octets then Some Padding else None))))

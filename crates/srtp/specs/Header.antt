-- The header of an RTP packet as far as SRTP reads it (RFC 3550, section 5.1): it is not encrypted, and what is behind it is.
use Rattle.std.specs.Prelude.{ℕ, Bool, ◌+◌, ◌*◌, ◌/◌, ◌%◌, ◌==◌, not, nat_lt, List, length, drop, slice_index, Option, if◌then◌else◌}
use Rattle.byteorder.specs.Endian.{big_number}
use Rattle.srtp.specs.declared.fault.SrtpFault.{SrtpFault}
use Rattle.srtp.specs.declared.fault.SrtpFault.TheVariants.{Short, Version, Header}
use Rattle.srtp.specs.Fault.{or_else, fault_if}

-- V, X and CC of the first octet
abbrev pub version_of : List ℕ → ℕ
version_of octets = slice_index octets 0 / 64

abbrev pub is_extended : List ℕ → Bool
is_extended octets = slice_index octets 0 / 16 % 2 == 1

abbrev pub source_count : List ℕ → ℕ
source_count octets = slice_index octets 0 % 16

-- the sequence number, and the SSRC
abbrev pub sequence_of : List ℕ → ℕ
sequence_of octets = big_number 2 (drop 2 octets)

abbrev pub ssrc_of : List ℕ → ℕ
ssrc_of octets = big_number 4 (drop 8 octets)

-- how many octets the fixed header and the sources have
abbrev pub sources_end : List ℕ → ℕ
sources_end octets = 12 + 4 * source_count octets

-- How many octets the header has. Behind the sources an extension has a profile's 16 bits, its length in words of 32 bits, and
-- these words (section 5.3.1).
unfoldable pub header_len : List ℕ → ℕ
header_len octets =
    if is_extended octets
    then sources_end octets + 4 + 4 * big_number 2 (drop (sources_end octets + 2) octets)
    else sources_end octets

-- The first check that the octets of a packet without a tag fail.
unfoldable pub header_fault : List ℕ → Option SrtpFault
header_fault octets =
    or_else (fault_if (nat_lt (length octets) 12) Short)
    (or_else (fault_if (not (version_of octets == 2)) Version) (fault_if (nat_lt (length octets) (header_len octets)) Header))

-- The first four octets of an RTCP packet (RFC 3550, section 6.4.1; RFC 4585, section 6.1): each field where
-- the standards have it.
use Rattle.std.specs.Prelude.{ℕ, Bool, ◌+◌, ◌*◌, ◌/◌, ◌%◌, ◌==◌, ◌&&◌, List, drop, slice_index}
use Rattle.byteorder.specs.Endian.{big_number}

-- the fields of the first octet: V, P and FMT
abbrev pub version_of : List ℕ → ℕ
version_of octets = slice_index octets 0 / 64

abbrev pub is_padded : List ℕ → Bool
is_padded octets = slice_index octets 0 / 32 % 2 == 1

abbrev pub message_type : List ℕ → ℕ
message_type octets = slice_index octets 0 % 32

-- PT
abbrev pub packet_type : List ℕ → ℕ
packet_type octets = slice_index octets 1

-- how many octets the packet has by its length field, which counts words of 32 bits, less one
abbrev pub packet_length : List ℕ → ℕ
packet_length octets = 4 * (big_number 2 (drop 2 octets) + 1)

-- a generic NACK by its header: packet type 205, transport layer feedback, with message type 1
abbrev pub is_nack : List ℕ → Bool
is_nack octets = (packet_type octets == 205) && (message_type octets == 1)

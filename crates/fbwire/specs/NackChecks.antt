-- Which octets are no generic NACK, and which check they fail first. The checks read the octets where
-- RFC 4585, section 6.1, has each field.
use Rattle.std.specs.Prelude.{ℕ, ◌==◌, not, nat_lt, List, length, Option, Some, None, if◌then◌else◌}
use Rattle.fbwire.specs.declared.fault.FeedbackFault.{FeedbackFault}
use Rattle.fbwire.specs.declared.fault.FeedbackFault.TheVariants.{Short, Version, Padded, NotRtpfb, NotNack, Length, Empty}
use Rattle.fbwire.specs.Header.{version_of, is_padded, message_type, packet_type, packet_length}

-- The first check that the octets fail.
abbrev pub nack_fault : List ℕ → Option FeedbackFault
nack_fault octets =
    if nat_lt (length octets) 12
    then Some Short
    else (if not (version_of octets == 2)
    then Some Version
    else (if is_padded octets
    then Some Padded
    else (if not (packet_type octets == 205)
    then Some NotRtpfb
    else (if not (message_type octets == 1)
    then Some NotNack
    else (if not (length octets == packet_length octets)
    then Some Length
    else (if length octets == 12 then Some Empty else None))))))

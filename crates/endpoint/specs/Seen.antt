-- Which packets were taken last, as far as a ring remembers: it has a cell for each sequence number modulo the number of cells, with the
-- number and the RTP timestamp of the last packet of that cell that was taken.
use Rattle.std.specs.Prelude.{ℕ, ◌%◌, ◌==◌, ◌&&◌, Bool, false, nat_lt, List, length, drop, replicate, get_or, slice_set, Option, Some, None, Result, Ok, if◌then◌else◌}
use Rattle.byteorder.specs.Endian.{big_number}
use Rattle.receiver.specs.declared.fault.ReceiveFault.{ReceiveFault}
use Rattle.endpoint.specs.declared.heard.Heard.{Heard}
use Rattle.endpoint.specs.declared.heard.Heard.TheVariants.{Media, Repair, Restarted}
use Rattle.endpoint.specs.declared.seen_packets.SeenPacket.{SeenPacket}

-- nothing is remembered, in so many cells
abbrev pub none_seen : (count : ℕ) → List (Option SeenPacket)
none_seen count = replicate count None

abbrev pub is_packet : Option SeenPacket → (number timestamp : ℕ) → Bool
is_packet None number timestamp = false
is_packet (Some s) number timestamp = s.number == number && s.timestamp == timestamp

-- the packet with this number and timestamp is remembered
abbrev pub was_seen : List (Option SeenPacket) → (number timestamp : ℕ) → Bool
was_seen cells number timestamp = is_packet (get_or cells (number % length cells) None) number timestamp

-- one packet more is, and its cell forgets the one that it had
abbrev pub with_packet : List (Option SeenPacket) → (number timestamp : ℕ) → List (Option SeenPacket)
with_packet cells number timestamp = slice_set cells (number % length cells) (Some (record { number = number; timestamp = timestamp }))

-- the timestamp of a packet (RFC 3550, section 5.1, has it at the fifth octet)
abbrev pub timestamp_in : (octets : List ℕ) → ℕ
timestamp_in octets = if nat_lt (length octets) 8 then 0 else big_number 4 (drop 4 octets)

-- what was taken is remembered, a retransmission as its original
abbrev pub seen_after : Result Heard ReceiveFault → (octets : List ℕ) → List (Option SeenPacket) → List (Option SeenPacket)
seen_after (Ok (Media taken)) octets cells = with_packet cells (taken.place % 65536) (timestamp_in octets)
seen_after (Ok (Repair taken)) octets cells = with_packet cells (taken.place % 65536) (timestamp_in octets)
seen_after (Ok (Restarted restart)) octets cells = with_packet cells (restart.taken.place % 65536) (timestamp_in octets)
seen_after answer octets cells = cells

-- a media packet with this number, as the octets spell it, was taken before
abbrev pub is_repeat : List (Option SeenPacket) → (number : Option ℕ) → (octets : List ℕ) → Bool
is_repeat cells None octets = false
is_repeat cells (Some number) octets = was_seen cells number (timestamp_in octets)

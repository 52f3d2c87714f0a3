-- The newest packet of a session's media: the one whose sequence number lies ahead of all that came, by less than half of the numbers.
use Rattle.std.specs.Prelude.{◌≡◌, ℕ, ◌+◌, ◌-◌, ◌%◌, ◌==◌, ◌&&◌, Bool, true, false, nat_le, nat_lt, List, length, drop}
use Rattle.byteorder.specs.Endian.{big_number}
use Rattle.gozdrit_relay.specs.declared.newest.Newest.{Newest}

-- the sequence number of a packet, and its SSRC (RFC 3550, section 5.1)
abbrev pub number_in : List ℕ → ℕ
number_in octets = big_number 2 (drop 2 octets)

abbrev pub source_in : List ℕ → ℕ
source_in octets = big_number 4 (drop 8 octets)

-- by how much a number lies ahead of another one, modulo 65536
abbrev pub ahead_of : (greatest number : ℕ) → ℕ
ahead_of greatest number = (number + 65536 - greatest) % 65536

-- a packet of the session's media is ahead of all that came
abbrev pub is_ahead : Newest → List ℕ → Bool
is_ahead n octets =
    nat_le 12 (length octets) && ((source_in octets == n.ssrc)
    && (nat_lt 0 (ahead_of n.number (number_in octets)) && nat_le (ahead_of n.number (number_in octets)) 32767))

abbrev pub GoesAheadWhere : (is : Bool) → Newest → List ℕ → Newest → Type 0
GoesAheadWhere true old octets new = new ≡ record old { number = number_in octets }
GoesAheadWhere false old octets new = new ≡ old

-- it is the newest one from then on
abbrev pub GoesAhead : Newest → List ℕ → (is : Bool) → Newest → Type 0
GoesAhead old octets is new = (is ≡ is_ahead old octets) × GoesAheadWhere is old octets new

-- What a reader of a compound datagram sees: packet after packet, each by its length, those that are
-- generic NACKs. That the octets spell these NACKs, and no others, is proved.
use Rattle.std.specs.Prelude.{ℕ, zero, suc, ◌==◌, List, [], ◌∷◌, length, take, drop, if◌then◌else◌}
use Rattle.fbwire.specs.Header.{packet_length, is_nack}
use Rattle.fbwire.specs.Nack.{Nack}
use Rattle.fbwire.specs.NackReading.{nack_in}

-- the NACKs among the first packets, so many of them
abbrev pub nacks_among : ℕ → List ℕ → List Nack
nacks_among zero octets = []
nacks_among (suc n) octets =
    if length octets == 0
    then []
    else (if is_nack octets
    then nack_in (take (packet_length octets) octets) ∷ nacks_among n (drop (packet_length octets) octets)
    else nacks_among n (drop (packet_length octets) octets))

-- the NACKs of all packets, of which there are no more than octets
unfoldable pub nacks_in : List ℕ → List Nack
nacks_in octets = nacks_among (length octets) octets

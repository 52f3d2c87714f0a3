-- The checks of feedback in their order (RFC 4585, sections 6.1 and 6.2.1; RFC 3550, section 6.1), each as a condition
-- on the octets. `NackChecks` and `CompoundChecks` have the same order in the way that they are written.
use Rattle.std.specs.Prelude.{◌≡◌, ◌≢◌, ℕ, zero, suc, Bool, false, IsTrue, ◌<◌, ◌==◌, ◌||◌, ◌&&◌, List, [], ◌∷◌, ◌++◌, length, take, drop}
use Rattle.fbwire.specs.Header.{version_of, is_padded, message_type, packet_type, packet_length}

-- of a generic NACK that is alone
unfoldable pub nack_order : List ℕ → List (ℕ × Type 0)
nack_order octets =
    (11, length octets < 12)
    ∷ (12, version_of octets ≢ 2)
    ∷ (13, IsTrue (is_padded octets))
    ∷ (14, packet_type octets ≢ 205)
    ∷ (15, message_type octets ≢ 1)
    ∷ (16, length octets ≢ packet_length octets)
    ∷ (17, packet_length octets ≡ 12)
    ∷ []

-- a generic NACK is at the front of the octets
abbrev pub BeginsWithNack : List ℕ → Type 0
BeginsWithNack octets = (packet_type octets ≡ 205) × (message_type octets ≡ 1)

-- of the packet at the front of what is left of a compound datagram
abbrev pub packet_order : List ℕ → List (ℕ × Type 0)
packet_order octets =
    (11, length octets < 4)
    ∷ (12, version_of octets ≢ 2)
    ∷ (13, BeginsWithNack octets × IsTrue (is_padded octets))
    ∷ (16, length octets < packet_length octets)
    ∷ (11, BeginsWithNack octets × (packet_length octets < 12))
    ∷ (17, BeginsWithNack octets × (packet_length octets ≡ 12))
    ∷ []

-- Of the packets that are left, so many at most, one after another: whether a packet before them had type 205, and
-- whether one was a NACK, decides at the end of the datagram.
abbrev pub walk_order : ℕ → (had_feedback had_nack : Bool) → List ℕ → List (ℕ × Type 0)
walk_order zero had_feedback had_nack octets = []
walk_order (suc n) had_feedback had_nack [] = (14, (had_nack ≡ false) × (had_feedback ≡ false)) ∷ (15, had_nack ≡ false) ∷ []
walk_order (suc n) had_feedback had_nack (first ∷ rest) =
    let octets = first ∷ rest in
    let packet = take (packet_length octets) octets in
    packet_order octets
    ++ walk_order n (had_feedback || (packet_type packet == 205)) (had_nack || ((packet_type packet == 205) && (message_type packet == 1))) (drop (packet_length octets) octets)

-- of a compound datagram
unfoldable pub compound_order : List ℕ → List (ℕ × Type 0)
compound_order octets = (11, octets ≡ []) ∷ walk_order (suc (length octets)) false false octets

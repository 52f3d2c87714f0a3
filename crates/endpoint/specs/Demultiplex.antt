-- RTP and RTCP on one port (RFC 5761, section 4).
use Rattle.std.specs.Prelude.{ℕ, Bool, false, ◌&&◌, nat_le, List, [], ◌∷◌}

-- Whether a datagram is RTCP: its second octet, the packet type there, is one of 192 to 223.
abbrev pub is_control : List ℕ → Bool
is_control [] = false
is_control (first ∷ []) = false
is_control (first ∷ second ∷ rest) = nat_le 192 second && nat_le second 223

-- A session of two ends, with the media and its retransmissions in two streams (RFC 4588, section 5.3,
-- SSRC multiplexing).
use Rattle.std.specs.Prelude.{◌≡◌, ◌≢◌, ◌⊎◌, ℕ, ◌<◌, ◌≤◌, List, [], ◌∷◌}

pub record Streams : Type 0 where
  pub media_ssrc : ℕ
  pub media_type : ℕ
  pub repair_ssrc : ℕ
  pub repair_type : ℕ
  pub receiver_ssrc : ℕ

abbrev pub streams : (media_ssrc media_type repair_ssrc repair_type receiver_ssrc : ℕ) → Streams
streams media_ssrc media_type repair_ssrc repair_type receiver_ssrc =
    record {
      media_ssrc = media_ssrc;
      media_type = media_type;
      repair_ssrc = repair_ssrc;
      repair_type = repair_type;
      receiver_ssrc = receiver_ssrc;
    }

-- a payload type that a session may give a meaning (RFC 3551, section 3)
abbrev pub IsDynamic : ℕ → Type 0
IsDynamic payload_type = (96 ≤ payload_type) × (payload_type ≤ 127)

-- A payload type that media may have where RTP and RTCP share a port (RFC 5761, section 4): any but 64 to 95. With the marker
-- bit in front of it, one of those would be read as an RTCP packet type of 192 to 223.
abbrev pub IsMediaType : ℕ → Type 0
IsMediaType payload_type = (payload_type ≤ 127) × (64 ≤ payload_type → 95 < payload_type)

-- the types are in range, and apart
pub record HasTypes (s : Streams) : Type 0 where
  pub media : IsDynamic s.media_type
  pub repair : IsDynamic s.repair_type
  pub apart : s.media_type ≢ s.repair_type

-- the same with any type that media may have: those of a profile too (RFC 3551, section 6)
pub record HasAnyMediaType (s : Streams) : Type 0 where
  pub media : IsMediaType s.media_type
  pub repair : IsDynamic s.repair_type
  pub apart : s.media_type ≢ s.repair_type

-- no two SSRCs are equal
pub record HasSsrcs (s : Streams) : Type 0 where
  pub repair : s.media_ssrc ≢ s.repair_ssrc
  pub receiver : s.media_ssrc ≢ s.receiver_ssrc
  pub reporter : s.repair_ssrc ≢ s.receiver_ssrc

-- one SSRC twice
abbrev pub ssrc_order : Streams → List (ℕ × Type 0)
ssrc_order s = (52, (s.media_ssrc ≡ s.repair_ssrc) ⊎ (s.media_ssrc ≡ s.receiver_ssrc) ⊎ (s.repair_ssrc ≡ s.receiver_ssrc)) ∷ []

-- The checks of a session in their order: a type from outside 96 to 127, or one type twice; else one SSRC twice.
abbrev pub session_order : Streams → List (ℕ × Type 0)
session_order s =
    (51, (s.media_type < 96) ⊎ (127 < s.media_type) ⊎ (s.repair_type < 96) ⊎ (127 < s.repair_type) ⊎ (s.media_type ≡ s.repair_type))
    ∷ ssrc_order s

-- The same with any type of media: it is one of 64 to 95, or above 127; the type of the retransmissions is from outside 96 to
-- 127; or one type comes twice.
abbrev pub any_media_order : Streams → List (ℕ × Type 0)
any_media_order s =
    (51, ((64 ≤ s.media_type) × (s.media_type ≤ 95)) ⊎ (127 < s.media_type) ⊎ (s.repair_type < 96) ⊎ (127 < s.repair_type) ⊎ (s.media_type ≡ s.repair_type))
    ∷ ssrc_order s

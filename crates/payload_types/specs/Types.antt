-- Which payload types a session has under one SSRC: pairs of a type of the media and that of its retransmissions (RFC 4588,
-- section 8.6, apt). The first pair is that of the session below, which knows no other.
use Rattle.std.specs.Prelude.{◌≡◌, ◌%◌, ◌⊎◌, ◌≤◌, ◌<◌, ◌==◌, ◌&&◌, ◌||◌, ℕ, Bool, true, false, not, nat_le, nat_lt, List, [], ◌∷◌, length, Option, Some, None, if◌then◌else◌}
use Rattle.std.specs.List.{list_any}
use Rattle.payload_types.specs.declared.types.TypePair.{TypePair}
use Rattle.payload_types.specs.declared.types.TheConstants.{MAX_TYPES}

-- A type of the media is one of 64 to 95, which are taken for RTCP (RFC 5761, section 4), or above 127; or that of the
-- retransmissions is no dynamic one, from 96 to 127 (RFC 3551, section 3).
abbrev pub is_wrong : TypePair → Bool
is_wrong p = (nat_le 64 p.media && nat_le p.media 95) || (nat_lt 127 p.media || (nat_lt p.repair 96 || nat_lt 127 p.repair))

-- a pair has this type
abbrev pub has_type : ℕ → TypePair → Bool
has_type t p = (p.media == t) || (p.repair == t)

-- no type stands twice
abbrev pub are_apart : List TypePair → Bool
are_apart [] = true
are_apart (p ∷ more) = not (p.media == p.repair) && (not (list_any (has_type p.media) more) && (not (list_any (has_type p.repair) more) && are_apart more))

-- The checks in their order: no pair, or too many; else a wrong type; else a type twice.
abbrev pub types_order : List TypePair → List (ℕ × Type 0)
types_order pairs =
    (54, (length pairs ≡ 0) ⊎ (MAX_TYPES < length pairs))
    ∷ (55, list_any is_wrong pairs ≡ true)
    ∷ (56, are_apart pairs ≡ false)
    ∷ []

-- what the types of a session are
pub record AreTypes (pairs : List TypePair) : Type 0 where
  pub some : 0 < length pairs
  pub few : length pairs ≤ MAX_TYPES
  pub right : list_any is_wrong pairs ≡ false
  pub apart : are_apart pairs ≡ true

-- the pair is the first one
abbrev pub IsFirst : List TypePair → TypePair → Type 0
IsFirst [] pair = ⊥
IsFirst (first ∷ more) pair = pair ≡ first

-- the pair whose media have this type
abbrev pub pair_of_media : List TypePair → ℕ → Option TypePair
pair_of_media [] t = None
pair_of_media (p ∷ more) t = if p.media == t then Some p else pair_of_media more t

-- the pair whose retransmissions have this type
abbrev pub pair_of_repair : List TypePair → ℕ → Option TypePair
pair_of_repair [] t = None
pair_of_repair (p ∷ more) t = if p.repair == t then Some p else pair_of_repair more t

-- pairs as octets, two each
abbrev pub pairs_of : List ℕ → List TypePair
pairs_of [] = []
pairs_of (one ∷ []) = []
pairs_of (media ∷ repair ∷ more) = record { media = media; repair = repair } ∷ pairs_of more

-- the checks of octets in their order: they are no pairs; else those of the pairs
abbrev pub octets_order : List ℕ → List (ℕ × Type 0)
octets_order octets = (54, length octets % 2 ≡ 1) ∷ types_order (pairs_of octets)

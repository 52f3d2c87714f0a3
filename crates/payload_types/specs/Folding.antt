-- Packets of several types as one session of one pair of types has them: each keeps the type of its media as one octet more
-- behind its payload, so that it goes with the packet through a history, the network below and a window.
use Rattle.std.specs.Prelude.{◌≡◌, ◌≤◌, ◌⊎◌, ◌-◌, ◌==◌, ◌||◌, ◌++◌, ℕ, Bool, true, false, nat_le, List, [], ◌∷◌, length, take, drop, slice_index, Option, Some, None, if◌then◌else◌}
use Rattle.rtpwire.specs.Content.{IsTooLong}
use Rattle.rtpwire.specs.Rtp.{RtpPacket, RtpSpells}
use Rattle.endpoint.specs.Padding.{IsStripped}
use Rattle.payload_types.specs.Types.{pair_of_media, pair_of_repair}
use Rattle.payload_types.specs.declared.types.TypePair.{TypePair}
use Rattle.payload_types.specs.declared.folding.Fitted.{Fitted}
use Rattle.payload_types.specs.declared.folding.Fitted.TheVariants.{Same, Written, TooLong, NoType}

-- The octets themselves; of a packet that is all padding, those without it.
abbrev pub IsPlain : (octets plain : List ℕ) → Type 0
IsPlain octets plain = IsStripped octets plain ⊎ (((stripped : List ℕ) → IsStripped octets stripped → ⊥) × (plain ≡ octets))

-- the packet under this type, with this payload and no padding
abbrev pub under : (payload_type : ℕ) → (payload : List ℕ) → RtpPacket → RtpPacket
under payload_type payload p = record p { payload_type = payload_type; payload = payload; padding = 0 }

-- the same with the type of its media behind its payload
abbrev pub keeping : (payload_type media : ℕ) → RtpPacket → RtpPacket
keeping payload_type media p = under payload_type (p.payload ++ media ∷ []) p

-- A packet with a type of some media is one of the first pair's media; one with a type of their retransmissions, and with the
-- two octets that name its original, is a retransmission of the first pair's.
abbrev pub kept_by : (first : TypePair) → (media repair : Option TypePair) → RtpPacket → Option RtpPacket
kept_by first (Some pair) repair p = Some (keeping first.media pair.media p)
kept_by first None (Some pair) p = if nat_le 2 (length p.payload) then Some (keeping first.repair pair.media p) else None
kept_by first None None p = None

-- a packet of the network as the session has it, if it is one of the session
abbrev pub in_session : List TypePair → RtpPacket → Option RtpPacket
in_session [] p = None
in_session (first ∷ more) p = kept_by first (pair_of_media (first ∷ more) p.payload_type) (pair_of_repair (first ∷ more) p.payload_type) p

-- the type that stands behind a payload, and what stands before it
abbrev pub kept_in : List ℕ → ℕ
kept_in payload = slice_index payload (length payload - 1)

abbrev pub before : List ℕ → List ℕ
before payload = take (length payload - 1) payload

abbrev pub of_media : Option TypePair → RtpPacket → Option RtpPacket
of_media None q = None
of_media (Some pair) q = Some (under pair.media (before q.payload) q)

abbrev pub of_repair : Option TypePair → RtpPacket → Option RtpPacket
of_repair None q = None
of_repair (Some pair) q = Some (under pair.repair (before q.payload) q)

-- whether a packet of the session is one of its media, or one of the first pair's types at all
abbrev pub is_media : List TypePair → RtpPacket → Bool
is_media [] q = false
is_media (first ∷ more) q = q.payload_type == first.media

abbrev pub is_repair : List TypePair → RtpPacket → Bool
is_repair [] q = false
is_repair (first ∷ more) q = q.payload_type == first.repair

abbrev pub is_of_session : List TypePair → RtpPacket → Bool
is_of_session pairs q = is_media pairs q || is_repair pairs q

-- the media's packet under the type that stands behind its payload
abbrev pub media_on : List TypePair → RtpPacket → Option RtpPacket
media_on pairs q = if nat_le 1 (length q.payload) then of_media (pair_of_media pairs (kept_in q.payload)) q else None

-- the retransmission under the type of those of the media whose type stands behind its payload
abbrev pub repair_on : List TypePair → RtpPacket → Option RtpPacket
repair_on pairs q = if nat_le 3 (length q.payload) then of_repair (pair_of_media pairs (kept_in q.payload)) q else None

-- a packet of the session as the network has it
abbrev pub on_network : List TypePair → RtpPacket → Option RtpPacket
on_network pairs q = if is_media pairs q then media_on pairs q else (if is_repair pairs q then repair_on pairs q else None)

-- No session holds the packet: its payload, without what names an original, or its header extension is too long.
abbrev pub IsTooLongFor : (is_media : Bool) → RtpPacket → Type 0
IsTooLongFor true q = IsTooLong q
IsTooLongFor false q = IsTooLong (record q { payload = drop 2 q.payload })

-- the front of a buffer spells the packet; or no session holds it
abbrev pub FitsAs : (is_media : Bool) → RtpPacket → Fitted → (new : List ℕ) → Type 0
FitsAs is_media q Same new = ⊥
FitsAs is_media q (Written len) new = RtpSpells q (take len new)
FitsAs is_media q TooLong new = IsTooLongFor is_media q
FitsAs is_media q NoType new = ⊥

-- what was written has its place
abbrev pub IsWithin : (room : ℕ) → Fitted → Type 0
IsWithin room (Written len) = len ≤ room
IsWithin room fitted = Unit {0}

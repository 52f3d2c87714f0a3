-- What the calls of several payload types answer to C. The fields of `Enters` and `Leaves` are the clauses of the calls of `payload_types`.
use Rattle.std.specs.Prelude.{◌≡◌, ◌≢◌, ◌<◌, ◌≤◌, ◌++◌, ℕ, ℤ, pos, true, false, List, length, take, drop, Option, Some, None, is_some}
use Rattle.rtpwire.specs.FirstOf.{FirstOf}
use Rattle.rtpwire.specs.Rtp.{RtpPacket, RtpSpells}
use Rattle.payload_types.specs.Fault.{types_number}
use Rattle.payload_types.specs.Folding.{FitsAs, IsPlain, in_session, is_media, is_of_session, on_network}
use Rattle.payload_types.specs.Types.{octets_order, pair_of_media, pairs_of}
use Rattle.payload_types.specs.declared.fault.TypesFault.{TypesFault}
use Rattle.payload_types.specs.declared.folding.Fitted.{Fitted}
use Rattle.payload_types.specs.declared.folding.Fitted.TheVariants.{Same, Written, TooLong, NoType}
use Rattle.payload_types.specs.declared.types.TypePair.{TypePair}
use Rattle.gozdrit.specs.Codes.{ok, no_room, too_long, no_type}

-- what becomes of a datagram of the network, and stands at the front of a buffer
pub record Enters (pairs : List TypePair) (octets : List ℕ) (fitted : Fitted) (out : List ℕ) : Type 0 where
  pub other : (plain : List ℕ) → IsPlain octets plain → ((p : RtpPacket) → RtpSpells p plain → ⊥) → fitted ≡ Same
  pub strange : (plain : List ℕ) (p : RtpPacket) → IsPlain octets plain → RtpSpells p plain → in_session pairs p ≡ None → fitted ≡ Same
  pub kept : (plain : List ℕ) (p q : RtpPacket) → IsPlain octets plain → RtpSpells p plain → in_session pairs p ≡ Some q
      → FitsAs (is_some (pair_of_media pairs p.payload_type)) q fitted out

-- and of one that the session wrote
pub record Leaves (pairs : List TypePair) (octets : List ℕ) (fitted : Fitted) (out : List ℕ) : Type 0 where
  pub other : ((q : RtpPacket) → RtpSpells q octets → ⊥) → fitted ≡ Same
  pub strange : (q : RtpPacket) → RtpSpells q octets → is_of_session pairs q ≡ false → fitted ≡ Same
  pub restored : (p q : RtpPacket) → RtpSpells q octets → on_network pairs q ≡ Some p → FitsAs (is_media pairs q) p fitted out
  pub unknown : (q : RtpPacket) → RtpSpells q octets → is_of_session pairs q ≡ true → on_network pairs q ≡ None → fitted ≡ NoType

-- what was written takes the datagram's place, where there is room for it
pub record TellsWritten (n : ℕ) (out octets : List ℕ) (told : ℕ) (code : ℤ) (octets' : List ℕ) (told' : ℕ) : Type 0 where
  pub done : n ≤ length octets → (code ≡ ok) × (octets' ≡ take n out ++ drop n octets) × (told' ≡ n)
  pub short : length octets < n → (code ≡ no_room) × (octets' ≡ octets) × (told' ≡ told)

-- A datagram of so many octets stays, or what was written for it takes its place, where there is room for that.
abbrev pub TellsFitted : Fitted → (len : ℕ) → (out octets : List ℕ) → (told : ℕ) → ℤ → (octets' : List ℕ) → (told' : ℕ) → Type 0
TellsFitted Same len out octets told code octets' told' = (code ≡ ok) × (octets' ≡ octets) × (told' ≡ len)
TellsFitted (Written n) len out octets told code octets' told' = TellsWritten n out octets told code octets' told'
TellsFitted TooLong len out octets told code octets' told' = (code ≡ too_long) × (octets' ≡ octets) × (told' ≡ told)
TellsFitted NoType len out octets told code octets' told' = (code ≡ no_type) × (octets' ≡ octets) × (told' ≡ told)

-- `gozdrit_types_enter`, `gozdrit_types_leave`: the datagram is the first `len` octets
pub record AnswersTypes (Becomes : List TypePair → List ℕ → Fitted → List ℕ → Type 0) (pairs octets : List ℕ) (len told : ℕ) (code : ℤ) (octets' : List ℕ) (told' : ℕ) : Type 0 where
  pub bad : (number : ℕ) → FirstOf (octets_order pairs) (Some number) → code ≡ pos number
  pub short : FirstOf (octets_order pairs) None → length octets < len → code ≡ no_room
  pub fits : FirstOf (octets_order pairs) None → len ≤ length octets
      → (fitted : Fitted) × (out : List ℕ) × Becomes (pairs_of pairs) (take len octets) fitted out × TellsFitted fitted len out octets told code octets' told'
  pub refused : code ≢ ok → (octets' ≡ octets) × (told' ≡ told)

-- Which SSRC the retransmissions have, where that was learnt (RFC 4588, section 5.3, leaves it to signalling or to what is asked for): the one
-- that was learnt falls to another one that repairs while it repairs nothing. (The rule is this project's own.)
use Rattle.std.specs.Prelude.{◌≡◌, ℕ, ◌&&◌, Bool, true, false, nat_lt, not, List, Option, Some, None, Result, Ok, Err, if◌then◌else◌}
use Rattle.stores.specs.ByPlace.{slot_at}
use Rattle.stores.specs.Span.{Span, highest_of}
use Rattle.receiver.specs.Receiver.{Receiving, unlearnt}
use Rattle.receiver.specs.declared.fault.ReceiveFault.{ReceiveFault}
use Rattle.receiver.specs.declared.fault.ReceiveFault.TheVariants.{UnknownSource}
use Rattle.endpoint.specs.declared.heard.Heard.{Heard}
use Rattle.endpoint.specs.declared.heard.Heard.TheVariants.{Repair, Restarted}
use Rattle.endpoint.specs.declared.probation.Probation.{Probation}
use Rattle.endpoint.specs.declared.seen_packets.SeenPacket.{SeenPacket}
use Rattle.endpoint.specs.Kinds.{IsRepairOf}
use Rattle.endpoint.specs.Measuring.{IsOriginal, asks_of}
use Rattle.endpoint.specs.Receiving.{Ends, HearsDatagram}

-- a place was asked for so often
abbrev pub is_asked : (asks : Option ℕ) → Bool
is_asked None = false
is_asked (Some asks) = nat_lt 0 asks

-- the place is missing, and was asked for
abbrev pub was_asked : Span → (place : Option ℕ) → Bool
was_asked s None = false
was_asked s (Some place) = is_asked (asks_of (slot_at s place))

-- A datagram was refused, as its SSRC is none of the session's (31). The first that would have repaired is kept in mind; with the second the
-- SSRC that was learnt falls, and is learnt anew.
pub record Doubts (old : Bool) (octets : List ℕ) (mid : Receiving) (new : Bool) (core : Receiving) : Type 0 where
  pub original : Option ℕ
  pub is_original : IsOriginal mid.config.session (highest_of mid.span) octets original
  pub kept : new ≡ (if was_asked mid.span original then not old else old)
  pub falls : core ≡ (if was_asked mid.span original && old then unlearnt mid else mid)

-- What a datagram leaves of that, and of the receiver behind its answer: a retransmission that is taken shows that the SSRC is right, and a
-- restart learns it anew.
abbrev pub Weighs : (old : Bool) → (octets : List ℕ) → Result Heard ReceiveFault → (mid : Receiving) → (new : Bool) → (core : Receiving) → Type 0
Weighs old octets (Ok (Repair taken)) mid new core = (new ≡ false) × (core ≡ mid)
Weighs old octets (Ok (Restarted restart)) mid new core = (new ≡ false) × (core ≡ mid)
Weighs old octets (Err UnknownSource) mid new core = Doubts old octets mid new core
Weighs old octets answer mid new core = (new ≡ old) × (core ≡ mid)

-- A datagram is heard, and weighed by its answer.
pub record HearsWeighed (p : Probation) (seen : List (Option SeenPacket)) (old : Ends) (doubted : Bool) (octets : List ℕ) (now : ℕ) (answer : Result Heard ReceiveFault) (new : Ends) (doubted' : Bool) : Type 0 where
  pub mid : Receiving
  pub hears : HearsDatagram p seen old octets now answer (record new { core = mid })
  pub weighs : Weighs doubted octets answer mid doubted' new.core

-- ---- for a law to say

-- the octets are a retransmission, by their payload type, of a place that is missing and was asked for
pub record WouldRepair (core : Receiving) (octets : List ℕ) : Type 0 where
  pub highest : ℕ
  pub is_highest : highest_of core.span ≡ Some highest
  pub place : ℕ
  pub repairs : IsRepairOf core.config.session highest octets place
  pub asked : was_asked core.span (Some place) ≡ true

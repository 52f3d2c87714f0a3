-- A receiving endpoint that knows what it asked for, over all its calls. Lists have the newest first, so "before" is the tail.
use Rattle.std.specs.Prelude.{◌≡◌, ℕ, ◌%◌, ◌==◌, ◌||◌, Bool, false, List, [], ◌∷◌, length, Option, Some, None, Result, Ok, Err, if◌then◌else◌}
use Rattle.arrayvec.specs.ArrayVec.{ArrayVec}
use Rattle.stores.specs.Span.{highest_of}
use Rattle.fbwire.specs.Nack.{Nack, NackSpells}
use Rattle.receiver.specs.declared.fault.ReceiveFault.{ReceiveFault}
use Rattle.receiver.specs.Asks.{AsksMost}
use Rattle.receiver.specs.Config.{Config}
use Rattle.receiver.specs.Fault.{receive_number}
use Rattle.receiver.specs.Receiver.{restarted, state_of}
use Rattle.endpoint.specs.declared.heard.Heard.{Heard}
use Rattle.endpoint.specs.declared.heard.Heard.TheVariants.{Restarted}
use Rattle.endpoint.specs.declared.kind.Kind.{Kind}
use Rattle.endpoint.specs.declared.kind.Kind.TheVariants.{Padding, Unasked, Usual}
use Rattle.endpoint.specs.declared.kind_counts.KindCounts.{KindCounts}
use Rattle.endpoint.specs.declared.probation.Probation.{Probation}
use Rattle.endpoint.specs.Asked.{RemembersAsk, kept_after, none_asked, places_named}
use Rattle.endpoint.specs.Kinds.{IsKind, count_kind, no_kinds}
use Rattle.endpoint.specs.Receiving.{Ends, fresh, no_run}
use Rattle.endpoint.specs.Rivals.{HearsWeighed}
use Rattle.endpoint.specs.declared.seen_packets.SeenPacket.{SeenPacket}
use Rattle.endpoint.specs.Tally.{one_if}

-- a call, and what it answered
pub data Event : Type 0 where
  heard : (octets : List ℕ) → Result Heard ReceiveFault → Kind → Event
  asked : (places : List ℕ) → Event  -- the places that its NACK names, in its order; none where there was none to make
  restarted_by_call : Event
  other : Event  -- a play, a beginning, or other times

-- an endpoint, but for its probation and the counts that any receiving endpoint has
pub record Asking : Type 0 where
  pub ends : Ends
  pub cells : List (Option ℕ)
  pub kinds : KindCounts
  pub doubted : Bool

-- the places that a NACK names, made at this highest place
abbrev pub NamesPlaces : (highest : Option ℕ) → Option (ArrayVec ℕ) → (places : List ℕ) → Type 0
NamesPlaces highest None places = places ≡ []
NamesPlaces None (Some datagram) places = places ≡ []
NamesPlaces (Some h) (Some datagram) places = (nack : Nack) → NackSpells nack datagram.items → places ≡ places_named h nack

-- What each call does: its clauses.
pub record HearStep (p : Probation) (octets : List ℕ) (answer : Result Heard ReceiveFault) (kind : Kind) (old new : Asking) : Type 0 where
  pub now : ℕ
  pub seen : List (Option SeenPacket)
  pub hears : HearsWeighed p seen old.ends old.doubted octets now answer new.ends new.doubted
  pub kind_is : IsKind old.cells old.ends.core.config.session (highest_of old.ends.core.span) octets answer kind
  pub cells : new.cells ≡ kept_after answer old.cells
  pub kinds : new.kinds ≡ count_kind kind answer old.kinds

pub record AskStep (places : List ℕ) (old new : Asking) : Type 0 where
  pub now : ℕ
  pub most : ℕ
  pub answer : Option (ArrayVec ℕ)
  pub asks : AsksMost old.ends.core.config (state_of old.ends.core) now most answer (state_of new.ends.core)
  pub named : NamesPlaces (highest_of old.ends.core.span) answer places
  pub cells : RemembersAsk (highest_of old.ends.core.span) answer old.cells new.cells
  pub kinds : new.kinds ≡ old.kinds
  pub doubted : new.doubted ≡ old.doubted

pub record RestartStep (old new : Asking) : Type 0 where
  pub core : new.ends.core ≡ restarted old.ends.core
  pub cells : new.cells ≡ none_asked (length old.cells)
  pub kinds : new.kinds ≡ old.kinds
  pub doubted : new.doubted ≡ false

pub record OtherStep (old new : Asking) : Type 0 where
  pub cells : new.cells ≡ old.cells
  pub kinds : new.kinds ≡ old.kinds
  pub doubted : new.doubted ≡ old.doubted

abbrev pub Steps : Probation → Event → (old new : Asking) → Type 0
Steps p (heard octets answer kind) old new = HearStep p octets answer kind old new
Steps p (asked places) old new = AskStep places old new
Steps p restarted_by_call old new = RestartStep old new
Steps p other old new = OtherStep old new

pub record Follows (Before : Asking → Type 0) (p : Probation) (event : Event) (new : Asking) : Type 0 where
  pub old : Asking
  pub before : Before old
  pub steps : Steps p event old new

-- one that took nothing, over a ring of so many cells
pub record Begins (c : Config) (capacity : ℕ) (a : Asking) : Type 0 where
  pub ends : a.ends ≡ record { core = fresh c capacity; spare = fresh c capacity; run = no_run }
  pub cells : a.cells ≡ none_asked capacity
  pub kinds : a.kinds ≡ no_kinds
  pub doubted : a.doubted ≡ false

-- These calls left the endpoint so, since it was made.
abbrev pub RunsOver : Config → (capacity : ℕ) → Probation → List Event → Asking → Type 0
RunsOver c capacity p [] a = Begins c capacity a
RunsOver c capacity p (event ∷ before) a = Follows (RunsOver c capacity p before) p event a

-- one place after another, onto those before
abbrev pub in_turn : (places before : List ℕ) → List ℕ
in_turn [] before = before
in_turn (place ∷ places) before = in_turn places (place ∷ before)

-- The places that NACKs named since the stream last restarted, the newest first.
abbrev pub named : List Event → List ℕ
named [] = []
named (heard octets (Ok (Restarted restart)) kind ∷ before) = []
named (asked places ∷ before) = in_turn places (named before)
named (restarted_by_call ∷ before) = []
named (event ∷ before) = named before

-- the first of a list of places that has this rest by so many
abbrev pub first_with : (count rest : ℕ) → List ℕ → Option ℕ
first_with count rest [] = None
first_with count rest (q ∷ places) = if q % count == rest then Some q else first_with count rest places

-- 1 for each event that is counted so, and 0 for the others. A refusal is told by its number.

abbrev pub padding_in : Event → ℕ
padding_in (heard octets answer Padding) = 1
padding_in event = 0

abbrev pub unasked_in : Event → ℕ
unasked_in (heard octets answer Unasked) = 1
unasked_in event = 0

abbrev pub usual_as : (number : ℕ) → Event → ℕ
usual_as number (heard octets (Err fault) Usual) = one_if (receive_number fault == number)
usual_as number event = 0

-- refused, and by none of 34 to 36
abbrev pub usual_else : Event → ℕ
usual_else (heard octets (Err fault) Usual) =
    if (receive_number fault == 34) || ((receive_number fault == 35) || (receive_number fault == 36)) then 0 else 1
usual_else event = 0

-- A datagram of the wire is handed to an end over a link.
use Rattle.std.specs.Prelude.{◌≡◌, ◌⊎◌, ℕ, Bool, true, false, List, [], ◌∷◌, slice_get, Option, Some, None}
use Rattle.arrayvec.specs.ArrayVec.{ArrayVec}
use Rattle.world.specs.declared.event.End.{End}
use Rattle.world.specs.declared.event.Event.{Event}
use Rattle.world.specs.declared.event.Event.TheVariants.{Inject}
use Rattle.world.specs.declared.event.Entry.{Entry}
use Rattle.world.specs.declared.event.Entry.TheVariants.{Sent, Repaired, Asked}
use Rattle.world.specs.declared.event.Label.{Label}
use Rattle.world.specs.Config.{Config}
use Rattle.world.specs.Answers.{Item}
use Rattle.runs.specs.declared.link.Transfer.{Transfer}
use Rattle.runs.specs.declared.link.Transfer.TheVariants.{Put, Receipt, Nothing}
use Rattle.runs.specs.Scene.{Scene, Happens}
use Rattle.runs.specs.Traffic.{Grows}

-- the index of the datagram that an event wrote on the wire, if it wrote one
abbrev pub written_at : Entry → Option ℕ
written_at (Sent place index content) = Some index
written_at (Repaired place index) = Some index
written_at (Asked index now) = Some index
written_at _ = None

-- the wire has this datagram at this index
abbrev pub IsOnWire : List Item → (index : ℕ) → ArrayVec ℕ → Type 0
IsOnWire wire index datagram = (label : Label) × (slice_get wire index ≡ Some (label, datagram))

-- what came is injected
abbrev pub Injects : Config → End → (now : ℕ) → (came : Option (ArrayVec ℕ)) → Scene → Scene → Type 0
Injects c to now None old new = new ≡ old
Injects c to now (Some octets) old new = (entry : Entry) × Happens c old (Inject to octets now) entry new

abbrev pub receipt_of : End → (came : Option (ArrayVec ℕ)) → Transfer
receipt_of to None = Nothing to
receipt_of to (Some octets) = Receipt to octets

-- The wire's datagram is put into the link, the link is asked once for what came to the same end, and what came is injected.
pub record Hands (c : Config) (to : End) (index now : ℕ) (old : Scene) (moved : List Transfer) (new : Scene) : Type 0 where
  pub datagram : ArrayVec ℕ
  pub on_wire : IsOnWire old.stand.wire index datagram
  pub came : Option (ArrayVec ℕ)
  pub moved_is : moved ≡ Put to datagram ∷ receipt_of to came ∷ []
  pub injects : Injects c to now came old new

-- What was moved of a hand-over that was not done: nothing, or the put, or the put and what came.
abbrev pub IsHandOverBegun : End → (index : ℕ) → List Item → List Transfer → Type 0
IsHandOverBegun to index wire [] = Unit {0}
IsHandOverBegun to index wire (Put at datagram ∷ []) = (at ≡ to) × IsOnWire wire index datagram
IsHandOverBegun to index wire (Put at datagram ∷ Receipt from octets ∷ []) = (at ≡ to) × IsOnWire wire index datagram × (from ≡ to)
IsHandOverBegun to index wire moved = ⊥

-- what was written, if anything was, is handed over
abbrev pub HandsAny : Config → End → (now : ℕ) → (written : Option ℕ) → (went : Bool) → Scene → List Transfer → Scene → Type 0
HandsAny c to now None went old moved new = (went ≡ false) × (new ≡ old) × (moved ≡ [])
HandsAny c to now (Some index) went old moved new = (went ≡ true) × Hands c to index now old moved new

-- An event, and then what it wrote is handed over.
pub record Exchanges (c : Config) (event : Event) (to : End) (now : ℕ) (old : Scene) (told : Option (List Transfer)) (went : Bool) (new : Scene) (telling : Option (List Transfer)) : Type 0 where
  pub entry : Entry
  pub mid : Scene
  pub happens : Happens c old event entry mid
  pub moved : List Transfer
  pub hands : HandsAny c to now (written_at entry) went mid moved new
  pub tells : Grows told moved telling

-- the event happened, and what it wrote was not handed over whole
pub record StopsHandingOver (c : Config) (event : Event) (to : End) (old : Scene) (told : Option (List Transfer)) (new : Scene) (telling : Option (List Transfer)) : Type 0 where
  pub entry : Entry
  pub happens : Happens c old event entry new
  pub index : ℕ
  pub written : written_at entry ≡ Some index
  pub begun : List Transfer
  pub pending : IsHandOverBegun to index new.stand.wire begun
  pub tells : Grows told begun telling

-- the event did not happen, and nothing was moved; or it broke off
abbrev pub IsInterrupted : Config → Event → End → Scene → Option (List Transfer) → Scene → Option (List Transfer) → Type 0
IsInterrupted c event to old told new telling = ((new ≡ old) × (telling ≡ told)) ⊎ StopsHandingOver c event to old told new telling

-- What was believed since the last restart: the calls of the receiver that an endpoint hands it, and of the one that has what is
-- held back, told by the endpoint's answers alone. Lists have the newest first.
use Rattle.std.specs.Prelude.{◌≡◌, ℕ, ◌==◌, ◌⊎◌, ◌+◌, List, [], ◌∷◌, Option, Ok, if◌then◌else◌}
use Rattle.arrayvec.specs.ArrayVec.{ArrayVec}
use Rattle.receiver.specs.Config.{Config}
use Rattle.receiver.specs.declared.answer.Taken.{Taken}
use Rattle.receiver.specs.declared.answer.Played.{Played}
use Rattle.receiver.specs.Asks.{AsksMost}
use Rattle.receiver.specs.Receiver.{Receiving, Stays, begun, state_of, unlearnt, with_times}
use Rattle.receiver.specs.Window.{PlaysAny}
use Rattle.endpoint.specs.declared.heard.Heard.TheVariants.{Media, Repair, HeldBack, Restarted}
use Rattle.endpoint.specs.Padding.{IsStripped}
use Rattle.endpoint.specs.Receiving.{Handed, fresh}
use Rattle.endpoint.specs.Events.{Event, heard, played, asked, begun_at, restarted_by_call, unlearnt_by_call, timed}

-- one call of a receiver
pub data Deed : Type 0 where
  takes : (octets : List ℕ) → (now : ℕ) → Deed
  plays : (now : ℕ) → Deed
  asks : (now most : ℕ) → Deed
  begins : (first : ℕ) → Deed
  forgets : Deed
  sets : (patience delay retry : ℕ) → Deed

-- the octets, or those without the padding that they are all of
abbrev pub IsPlain : (octets plain : List ℕ) → Type 0
IsPlain octets plain = (plain ≡ octets) ⊎ IsStripped octets plain

pub record TakesIt (octets : List ℕ) (now : ℕ) (old new : Receiving) : Type 0 where
  pub plain : List ℕ
  pub is_plain : IsPlain octets plain
  pub taken : Taken
  pub handed : Handed old plain now (Ok taken) new

pub record PlaysIt (now : ℕ) (old new : Receiving) : Type 0 where
  pub answer : Played
  pub plays : PlaysAny old.config.patience (state_of old) now answer (state_of new)
  pub stays : Stays old new

pub record AsksIt (now most : ℕ) (old new : Receiving) : Type 0 where
  pub answer : Option (ArrayVec ℕ)
  pub asks : AsksMost old.config (state_of old) now most answer (state_of new)
  pub stays : Stays old new

-- what a call does
abbrev pub Does : Deed → (old new : Receiving) → Type 0
Does (takes octets now) old new = TakesIt octets now old new
Does (plays now) old new = PlaysIt now old new
Does (asks now most) old new = AsksIt now most old new
Does (begins first) old new = new ≡ begun old (65536 + first)
Does forgets old new = new ≡ unlearnt old
Does (sets patience delay retry) old new = new ≡ with_times old patience delay retry

-- a receiver that took nothing
pub record IsFresh (capacity : ℕ) (r : Receiving) : Type 0 where
  pub config : Config
  pub is : r ≡ fresh config capacity

pub record After (Before : Receiving → Type 0) (deed : Deed) (new : Receiving) : Type 0 where
  pub old : Receiving
  pub before : Before old
  pub does : Does deed old new

-- A receiver that these calls left, and no others, since it took nothing.
abbrev pub Reached : (capacity : ℕ) → List Deed → Receiving → Type 0
Reached capacity [] r = IsFresh capacity r
Reached capacity (deed ∷ before) r = After (Reached capacity before) deed r

-- the calls of both receivers
pub record Ledger : Type 0 where
  pub core : List Deed
  pub held : List Deed

-- what is held back before the packet that is the last of so many: nothing, if it is the first
abbrev pub held_before : (held : ℕ) → List Deed → List Deed
held_before held deeds = if held == 1 then [] else deeds

-- One more call at the receiver that is handed what is believed.
abbrev pub at_core : Deed → Ledger → Ledger
at_core deed l = record { core = deed ∷ l.core; held = l.held }

-- One more event. What is refused changes no receiver, and RTCP reaches none.
abbrev pub noted : Event → Ledger → Ledger
noted (heard octets now (Ok (Media taken))) l = at_core (takes octets now) l
noted (heard octets now (Ok (Repair taken))) l = at_core (takes octets now) l
noted (heard octets now (Ok (HeldBack held))) l = record { core = l.core; held = takes octets now ∷ held_before held l.held }
noted (heard octets now (Ok (Restarted restart))) l = record { core = takes octets now ∷ held_before restart.held l.held; held = [] }
noted (heard octets now answer) l = l
noted (played now answer) l = at_core (plays now) l
noted (asked now most answer places) l = at_core (asks now most) l
noted (begun_at first) l = at_core (begins first) l
noted restarted_by_call l = record { core = []; held = [] }
noted unlearnt_by_call l = at_core forgets l
noted (timed patience delay retry) l = record { core = sets patience delay retry ∷ l.core; held = sets patience delay retry ∷ l.held }

abbrev pub ledger : List Event → Ledger
ledger [] = record { core = []; held = [] }
ledger (event ∷ before) = noted event (ledger before)

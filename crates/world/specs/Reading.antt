-- What a log says, read from the log alone. A log is newest first here, so a list's tail is what came
-- before its head.
use Rattle.std.specs.Prelude.{◌≡◌, ◌⊎◌, ℕ, ◌+◌, ◌-◌, ◌<◌, ◌≤◌, ◌==◌, List, [], ◌∷◌, ◌++◌, Option, Some, None, slice_get, if◌then◌else◌}
use Rattle.rtpwire.specs.declared.content.Content.{Content}
use Rattle.receiver.specs.declared.answer.Played.TheVariants.{Packet, Gap}
use Rattle.world.specs.declared.event.Answer.TheVariants.{Taken}
use Rattle.world.specs.declared.event.Entry.{Entry}
use Rattle.world.specs.declared.event.Entry.TheVariants.{Sent, Repaired, Delivered, Injected, Played}
use Rattle.world.specs.Config.{Config}

-- the contents that were sent, the first one first
abbrev pub contents : List Entry → List Content
contents [] = []
contents (Sent place index content ∷ before) = contents before ++ content ∷ []
contents (entry ∷ before) = contents before

-- how many retransmissions were made
abbrev pub repairs_in : List Entry → ℕ
repairs_in [] = 0
repairs_in (Repaired place index ∷ before) = repairs_in before + 1
repairs_in (entry ∷ before) = repairs_in before

-- how often this place was retransmitted
abbrev pub repairs_of : (place : ℕ) → List Entry → ℕ
repairs_of place [] = 0
repairs_of place (Repaired repaired index ∷ before) = (if repaired == place then 1 else 0) + repairs_of place before
repairs_of place (entry ∷ before) = repairs_of place before

-- the content that was sent at this place of the sender's
abbrev pub WasSent : Config → List Entry → (place : ℕ) → Content → Type 0
WasSent c past place content = (count : ℕ) × (place ≡ 65536 + c.first + count) × (slice_get (contents past) count ≡ Some content)

-- The receiver's cursor: the first place taken, one more for each packet and each gap, and all that was
-- overrun.
abbrev pub cursor_from : Option ℕ → (place overrun : ℕ) → Option ℕ
cursor_from None place overrun = Some place
cursor_from (Some cursor) place overrun = Some (cursor + overrun)

abbrev pub cursor_next : Option ℕ → Option ℕ
cursor_next None = None
cursor_next (Some cursor) = Some (cursor + 1)

abbrev pub cursor_of : List Entry → Option ℕ
cursor_of [] = None
cursor_of (Delivered index label now (Taken taken) ∷ before) = cursor_from (cursor_of before) taken.place taken.overrun
cursor_of (Injected end now (Taken taken) ∷ before) = cursor_from (cursor_of before) taken.place taken.overrun
cursor_of (Played now (Packet place content) ∷ before) = cursor_next (cursor_of before)
cursor_of (Played now (Gap place) ∷ before) = cursor_next (cursor_of before)
cursor_of (entry ∷ before) = cursor_of before

-- the overrun that a place owes, the cursor before it being this: none at the start
abbrev pub OverrunIs : Config → Option ℕ → (place overrun : ℕ) → Type 0
OverrunIs c None place overrun = overrun ≡ 0
OverrunIs c (Some cursor) place overrun = overrun ≡ place + 1 - c.window - cursor

-- What is played or given up is always the cursor's place, so it rises place by place but for what was
-- overrun.
abbrev pub IsRising : Config → List Entry → Type 0
IsRising c [] = Unit {0}
IsRising c (Delivered index label now (Taken taken) ∷ before) = OverrunIs c (cursor_of before) taken.place taken.overrun × IsRising c before
IsRising c (Injected end now (Taken taken) ∷ before) = OverrunIs c (cursor_of before) taken.place taken.overrun × IsRising c before
IsRising c (Played now (Packet place content) ∷ before) = (cursor_of before ≡ Some place) × IsRising c before
IsRising c (Played now (Gap place) ∷ before) = (cursor_of before ≡ Some place) × IsRising c before
IsRising c (entry ∷ before) = IsRising c before

-- the place was played
abbrev pub IsPlayed : List Entry → (place : ℕ) → Type 0
IsPlayed [] place = ⊥
IsPlayed (Played now (Packet played content) ∷ before) place = (played ≡ place) ⊎ IsPlayed before place
IsPlayed (entry ∷ before) place = IsPlayed before place

-- Each place that is played lies above all that were played before it. So none is played twice.
abbrev pub IsStrictlyRising : List Entry → Type 0
IsStrictlyRising [] = Unit {0}
IsStrictlyRising (Played now (Packet place content) ∷ before) = ((earlier : ℕ) → IsPlayed before earlier → earlier < place) × IsStrictlyRising before
IsStrictlyRising (entry ∷ before) = IsStrictlyRising before

-- an overrun passed the place, the cursor before it being this
abbrev pub PassedBy : Option ℕ → (overrun place : ℕ) → Type 0
PassedBy None overrun place = ⊥
PassedBy (Some cursor) overrun place = (cursor ≤ place) × (place < cursor + overrun)

-- the place was given up or overrun
abbrev pub IsGone : List Entry → ℕ → Type 0
IsGone [] place = ⊥
IsGone (Played now (Gap given_up) ∷ before) place = (given_up ≡ place) ⊎ IsGone before place
IsGone (Delivered index label now (Taken taken) ∷ before) place = PassedBy (cursor_of before) taken.overrun place ⊎ IsGone before place
IsGone (Injected end now (Taken taken) ∷ before) place = PassedBy (cursor_of before) taken.overrun place ⊎ IsGone before place
IsGone (entry ∷ before) place = IsGone before place

-- the first place that was taken
abbrev pub unless_some : (other : ℕ) → Option ℕ → Option ℕ
unless_some other None = Some other
unless_some other (Some place) = Some place

abbrev pub first_place : List Entry → Option ℕ
first_place [] = None
first_place (Delivered index label now (Taken taken) ∷ before) = unless_some taken.place (first_place before)
first_place (Injected end now (Taken taken) ∷ before) = unless_some taken.place (first_place before)
first_place (entry ∷ before) = first_place before

abbrev pub IsFrom : (first : Option ℕ) → (place : ℕ) → Type 0
IsFrom None place = ⊥
IsFrom (Some first) place = first ≤ place

abbrev pub IsBehind : (cursor : Option ℕ) → (place : ℕ) → Type 0
IsBehind None place = ⊥
IsBehind (Some cursor) place = place < cursor

-- the cursor passed the place, and it was not played
pub record IsLeftOut (past : List Entry) (place : ℕ) : Type 0 where
  pub from_first : IsFrom (first_place past) place
  pub behind : IsBehind (cursor_of past) place
  pub unplayed : IsPlayed past place → ⊥

-- A place that was given up or overrun is never played later.
abbrev pub IsFinal : List Entry → Type 0
IsFinal [] = Unit {0}
IsFinal (Played now (Packet place content) ∷ before) = (IsGone before place → ⊥) × IsFinal before
IsFinal (entry ∷ before) = IsFinal before

-- One round that settles a world: the receiver asks until nothing is due, and each ask reaches the sender at once; then
-- the sender retransmits until nothing is marked, and each retransmission reaches the receiver at once. Entries are newest
-- first here.
use Rattle.std.specs.Prelude.{◌≡◌, ℕ, ◌+◌, ◌<◌, ◌≤◌, true, List, [], ◌∷◌, ◌++◌, reverse, Option, Some, None}
use Rattle.rtpwire.specs.declared.content.Content.{Content}
use Rattle.stores.specs.declared.entry.HistoryEntry.{HistoryEntry}
use Rattle.sender.specs.History.{SenderState}
use Rattle.receiver.specs.Window.{ReceiverState}
use Rattle.receiver.specs.Asks.{is_due}
use Rattle.world.specs.declared.event.Event.{Event}
use Rattle.world.specs.declared.event.Entry.{Entry}
use Rattle.world.specs.declared.event.Entry.TheVariants.{Repaired, NoRepair, Asked, NoAsk, Delivered}
use Rattle.world.specs.Config.{Config}
use Rattle.world.specs.Answers.{WorldState, Step}
use Rattle.world.specs.Reach.{shift_of}
use Rattle.world.specs.Reading.{WasSent}

-- The entries answer these events, and lead from one stand to another.
abbrev pub Adds : Config → WorldState → List Event → List Entry → WorldState → Type 0
Adds c start [] [] end = end ≡ start
Adds c start (event ∷ events) (entry ∷ added) end = (mid : WorldState) × Adds c start events added mid × Step c mid event entry end
Adds c start [] (entry ∷ added) end = ⊥
Adds c start (event ∷ events) [] end = ⊥

-- asks, and after each the delivery of its datagram
abbrev pub IsAsking : (now : ℕ) → List Entry → Type 0
IsAsking now [] = Unit {0}
IsAsking now (Delivered index label moment answer ∷ Asked at asked ∷ added) = (index ≡ at) × (moment ≡ now) × (asked ≡ now) × IsAsking now added
IsAsking now added = ⊥

-- the asks, then the one that finds nothing due, then retransmissions, and after each the delivery of its datagram
abbrev pub IsRepairing : (now : ℕ) → List Entry → Type 0
IsRepairing now (NoAsk asked ∷ added) = (asked ≡ now) × IsAsking now added
IsRepairing now (Delivered index label moment answer ∷ Repaired place at ∷ added) = (index ≡ at) × (moment ≡ now) × IsRepairing now added
IsRepairing now added = ⊥

-- the whole round, which ends where nothing is marked
abbrev pub IsRound : (now : ℕ) → List Entry → Type 0
IsRound now (NoRepair ∷ added) = IsRepairing now added
IsRound now added = ⊥

-- a beginning of a round: later entries make it one
abbrev pub IsRoundBegun : (now : ℕ) → List Entry → Type 0
IsRoundBegun now added = (later : List Entry) × IsRound now (later ++ added)

-- A world went on, and what was added to its log is of a kind. Logs are oldest first here, as a world keeps them.
pub record GoesOn (c : Config) (IsKind : List Entry → Type 0) (old new : WorldState) (log grown : List Entry) : Type 0 where
  pub events : List Event
  pub added : List Entry
  pub kind : IsKind added
  pub adds : Adds c old events added new
  pub log_is : grown ≡ log ++ reverse added

-- the place is not above the highest one
abbrev pub IsUpTo : (highest : Option ℕ) → (place : ℕ) → Type 0
IsUpTo None place = Unit {0}
IsUpTo (Some highest) place = place ≤ highest

-- No place that is marked lies above the greatest one taken. (Feedback for a packet that the history lost meanwhile may mark
-- such a place: its number is that of a later packet. Its retransmission could overrun what a round mended.)
abbrev pub IsMarkedUpTo : (highest : Option ℕ) → SenderState → Type 0
IsMarkedUpTo highest sender = (place : ℕ) (entry : HistoryEntry) → sender.entries place ≡ Some entry → entry.marked ≡ true → IsUpTo highest place

-- The sender's place is missing at the receiver, where it is the shift below, and due.
pub record IsAwaited (c : Config) (shift : ℕ) (s : WorldState) (place now : ℕ) : Type 0 where
  pub window : ReceiverState
  pub started : s.receiver ≡ Some window
  pub own : ℕ
  pub at : own + shift ≡ place
  pub due : is_due now c.receiver.delay c.receiver.retry c.receiver.asks (window.missing own) ≡ true

-- It is awaited, the history has it, and it may be retransmitted once more.
pub record IsMendable (c : Config) (shift : ℕ) (s : WorldState) (place now : ℕ) : Type 0 where
  pub awaited : IsAwaited c shift s place now
  pub entry : HistoryEntry
  pub kept : s.sender.entries place ≡ Some entry
  pub allowed : entry.repeats < c.repeats

-- The receiver holds the sender's place after this log, with the content that was sent there.
pub record IsMended (c : Config) (past : List Entry) (s : WorldState) (place : ℕ) : Type 0 where
  pub window : ReceiverState
  pub started : s.receiver ≡ Some window
  pub own : ℕ
  pub at : own + shift_of past ≡ place
  pub content : Content
  pub held : window.held own ≡ Some content
  pub sent : WasSent c past place content

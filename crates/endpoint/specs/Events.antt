-- What a receiving endpoint was called for, and what it answered. Lists of it have the newest first, so "before" is the tail.
use Rattle.std.specs.Prelude.{◌≡◌, ℕ, ◌+◌, List, [], ◌∷◌, Option, None, Result}
use Rattle.arrayvec.specs.ArrayVec.{ArrayVec}
use Rattle.receiver.specs.declared.answer.Played.{Played}
use Rattle.receiver.specs.declared.fault.ReceiveFault.{ReceiveFault}
use Rattle.receiver.specs.Asks.{AsksMost}
use Rattle.receiver.specs.Config.{Config}
use Rattle.receiver.specs.Receiver.{Stays, begun, restarted, state_of, unlearnt, with_times}
use Rattle.receiver.specs.Window.{PlaysAny}
use Rattle.endpoint.specs.declared.heard.Heard.{Heard}
use Rattle.endpoint.specs.declared.probation.Probation.{Probation}
use Rattle.endpoint.specs.declared.receive_counts.ReceiveCounts.{ReceiveCounts}
use Rattle.endpoint.specs.Receiving.{Ends, HearsDatagram, fresh, no_run}
use Rattle.endpoint.specs.ReceiveCounts.{count_heard, count_played, NamesMany, CountsAsk, no_counts}
use Rattle.endpoint.specs.Seen.{none_seen, seen_after}
use Rattle.endpoint.specs.declared.seen_packets.SeenPacket.{SeenPacket}

pub data Event : Type 0 where
  heard : (octets : List ℕ) → (now : ℕ) → Result Heard ReceiveFault → Event
  played : (now : ℕ) → Played → Event
  asked : (now most : ℕ) → Option (ArrayVec ℕ) → (places : ℕ) → Event  -- an ask that names so many places
  begun_at : (first : ℕ) → Event
  restarted_by_call : Event
  unlearnt_by_call : Event
  timed : (patience delay retry : ℕ) → Event

-- an endpoint, but for its probation
pub record Endpoint : Type 0 where
  pub ends : Ends
  pub counts : ReceiveCounts
  pub seen : List (Option SeenPacket)

-- one that took nothing
abbrev pub new_endpoint : Config → (capacity : ℕ) → Endpoint
new_endpoint config capacity =
    record { ends = record { core = fresh config capacity; spare = fresh config capacity; run = no_run }; counts = no_counts; seen = none_seen 8192 }

-- a call that reaches the receiver that is handed what is believed, and nothing else but the counts
pub record ChangesCore (old new : Endpoint) : Type 0 where
  pub spare : new.ends.spare ≡ old.ends.spare
  pub run : new.ends.run ≡ old.ends.run
  pub seen : new.seen ≡ old.seen

pub record Plays (old : Endpoint) (now : ℕ) (answer : Played) (new : Endpoint) : Type 0 where
  pub plays : PlaysAny old.ends.core.config.patience (state_of old.ends.core) now answer (state_of new.ends.core)
  pub stays : Stays old.ends.core new.ends.core
  pub rest : ChangesCore old new
  pub counts : new.counts ≡ count_played answer old.counts

pub record Asks (old : Endpoint) (now most : ℕ) (answer : Option (ArrayVec ℕ)) (places : ℕ) (new : Endpoint) : Type 0 where
  pub named : NamesMany answer places
  pub asks : AsksMost old.ends.core.config (state_of old.ends.core) now most answer (state_of new.ends.core)
  pub stays : Stays old.ends.core new.ends.core
  pub rest : ChangesCore old new
  pub counts : CountsAsk answer old.counts new.counts

pub record Begins (old : Endpoint) (first : ℕ) (new : Endpoint) : Type 0 where
  pub unstarted : state_of old.ends.core ≡ None
  pub begins : new.ends.core ≡ begun old.ends.core (65536 + first)
  pub rest : ChangesCore old new
  pub counts : new.counts ≡ old.counts

pub record Restarts (old new : Endpoint) : Type 0 where
  pub core : new.ends.core ≡ restarted old.ends.core
  pub spare : new.ends.spare ≡ old.ends.spare
  pub run : new.ends.run ≡ no_run
  pub counts : new.counts ≡ old.counts
  pub seen : new.seen ≡ old.seen

pub record Forgets (old new : Endpoint) : Type 0 where
  pub core : new.ends.core ≡ unlearnt old.ends.core
  pub rest : ChangesCore old new
  pub counts : new.counts ≡ old.counts

pub record Sets (old : Endpoint) (patience delay retry : ℕ) (new : Endpoint) : Type 0 where
  pub core : new.ends.core ≡ with_times old.ends.core patience delay retry
  pub spare : new.ends.spare ≡ with_times old.ends.spare patience delay retry
  pub run : new.ends.run ≡ old.ends.run
  pub counts : new.counts ≡ old.counts
  pub seen : new.seen ≡ old.seen

pub record Takes (p : Probation) (old : Endpoint) (octets : List ℕ) (now : ℕ) (answer : Result Heard ReceiveFault) (new : Endpoint) : Type 0 where
  pub hears : HearsDatagram p old.seen old.ends octets now answer new.ends
  pub counts : new.counts ≡ count_heard answer old.counts
  pub seen : new.seen ≡ seen_after answer octets old.seen

-- What each event does: the clauses of its call.
abbrev pub Steps : Probation → Event → (old new : Endpoint) → Type 0
Steps p (heard octets now answer) old new = Takes p old octets now answer new
Steps p (played now answer) old new = Plays old now answer new
Steps p (asked now most answer places) old new = Asks old now most answer places new
Steps p (begun_at first) old new = Begins old first new
Steps p restarted_by_call old new = Restarts old new
Steps p unlearnt_by_call old new = Forgets old new
Steps p (timed patience delay retry) old new = Sets old patience delay retry new

-- one event after those before it
pub record Follows (Before : Endpoint → Type 0) (p : Probation) (event : Event) (new : Endpoint) : Type 0 where
  pub old : Endpoint
  pub before : Before old
  pub steps : Steps p event old new

-- An endpoint that these events left, since it was made.
abbrev pub RunsOver : Config → (capacity : ℕ) → Probation → List Event → Endpoint → Type 0
RunsOver c capacity p [] e = e ≡ new_endpoint c capacity
RunsOver c capacity p (event ∷ before) e = Follows (RunsOver c capacity p before) p event e

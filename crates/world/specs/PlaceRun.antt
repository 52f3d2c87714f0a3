-- The place world: both ends over places without bound, with no octets, sequence numbers or stores. Labels
-- take the place of datagrams, and what a label stands for is the content that was sent at its place. A log
-- is newest first here.
use Rattle.std.specs.Prelude.{◌≡◌, ◌≢◌, ◌⊎◌, false, ℕ, ◌+◌, ◌^◌, ◌<◌, ◌≤◌, List, [], ◌∷◌, ◌++◌, length, take, map, Option, Some, None, Result, Err, slice_get}
use Rattle.arrayvec.specs.ArrayVec.{ArrayVec}
use Rattle.places.specs.Place.{number, reach, IsWithin}
use Rattle.places.specs.declared.nearness.PlaceFault.TheVariants.{Far}
use Rattle.rtpwire.specs.declared.content.Content.{Content}
use Rattle.fbwire.specs.declared.nack.Pair.{Pair}
use Rattle.fbwire.specs.Nack.{Nack, Names}
use Rattle.fbwire.specs.Compound.{NacksName}
use Rattle.stores.specs.declared.entry.HistoryEntry.{HistoryEntry}
use Rattle.stores.specs.PlaceLists.{Lists}
use Rattle.sender.specs.declared.fault.SendFault.{SendFault}
use Rattle.sender.specs.declared.fault.SendFault.TheVariants.{PaddedEmpty, Exhausted}
use Rattle.sender.specs.History.{SenderState, new_history, Sends, Marks, Repairs, NoneMarked}
use Rattle.receiver.specs.declared.answer.Taken.{Taken as Took}
use Rattle.receiver.specs.declared.fault.ReceiveFault.{ReceiveFault}
use Rattle.receiver.specs.declared.fault.ReceiveFault.TheVariants as refused
use Rattle.receiver.specs.declared.stream.Stream.{Stream}
use Rattle.receiver.specs.declared.stream.Stream.TheVariants as streams
use Rattle.receiver.specs.Config.{Config as Receiving}
use Rattle.receiver.specs.Window.{ReceiverState, PlaysAny}
use Rattle.receiver.specs.Streams.{known_to, learnt_by}
use Rattle.receiver.specs.Heard.{StartsIn, AnswersIn}
use Rattle.stores.specs.Asking.{longest_ask}
use Rattle.receiver.specs.Asks.{is_due, AsksBy}
use Rattle.world.specs.declared.event.Label.{Label}
use Rattle.world.specs.declared.event.Label.TheVariants.{Media, Repair, Feedback}
use Rattle.world.specs.declared.event.Answer.{Answer}
use Rattle.world.specs.declared.event.Answer.TheVariants.{Marked, FeedbackRefused}
use Rattle.world.specs.declared.event.End.TheVariants.{Sender, Receiver}
use Rattle.world.specs.declared.event.Entry.{Entry}
use Rattle.world.specs.declared.event.Entry.TheVariants.{Sent, SendRefused, Repaired, NoRepair, Asked, NoAsk, Nothing, Delivered, Injected, Played}
use Rattle.world.specs.Config.{Config}
use Rattle.world.specs.Labels.{place_of}
use Rattle.world.specs.Answers.{Item, WorldState, told}
use Rattle.world.specs.Reading.{WasSent}
use Rattle.world.specs.Reach.{shift_of}

pub record PlaceWorld : Type 0 where
  pub sender : SenderState
  pub labels : List Label  -- of all that was put on the wire, the first one first
  pub receiver : Option ReceiverState

abbrev pub new_places : Config → PlaceWorld
new_places c = record { sender = new_history c.first c.repair_first; labels = []; receiver = None }

-- both ends and the wire, without octets
abbrev pub label_of : Item → Label
label_of item = item.0

abbrev pub places_of : WorldState → PlaceWorld
places_of s = record { sender = s.sender; labels = map label_of s.wire; receiver = s.receiver }

-- The stream that a packet comes in by its label: a retransmission's SSRC is known, or is to be learnt.
abbrev pub repair_in : Receiving → (source : Option ℕ) → Stream
repair_in c (Some known) = streams.Repair
repair_in c None = streams.Candidate c.session.repair_ssrc

abbrev pub stream_in : Receiving → Option ReceiverState → Label → Stream
stream_in c old (Media place) = streams.Media
stream_in c old (Repair place) = repair_in c (known_to c (learnt_by old))
stream_in c old (Feedback pairs) = streams.Media

-- What a started receiver answers to a packet of the sender's `place`. Its own place lies the shift below.
-- A packet that lies 16384 or further from the highest place is refused with 34, and changes nothing.
abbrev pub AnswersLabel : Config → (shift : ℕ) → Stream → ReceiverState → (place : ℕ) → Content → (now : ℕ) → Result Took ReceiveFault → Option ReceiverState → Type 0
AnswersLabel c shift stream old place content now heard new =
    ((IsWithin reach place (old.highest + shift) → ⊥) × (heard ≡ Err (refused.Place Far)) × (new ≡ Some old))
    ⊎ ((own : ℕ) × (own + shift ≡ place) × IsWithin reach place (old.highest + shift) × AnswersIn c.window stream old own content now heard new)

-- What a receiver answers to the packet of a place in its stream. One that took nothing is started by a media
-- packet, one cycle above its sequence number, and by no retransmission.
abbrev pub ReceivesLabel : Config → (shift : ℕ) → Stream → Option ReceiverState → (place : ℕ) → Content → (now : ℕ) → Result Took ReceiveFault → Option ReceiverState → Type 0
ReceivesLabel c shift stream None place content now heard new = StartsIn stream (number place) content heard new
ReceivesLabel c shift stream (Some old) place content now heard new = AnswersLabel c shift stream old place content now heard new

-- the packet of a place of the sender's reaches the receiver, with the content that was sent there
pub record ReceivesSent (c : Config) (past : List Entry) (old : PlaceWorld) (label : Label) (place now : ℕ) (answer : Answer) (new : PlaceWorld) : Type 0 where
  pub content : Content
  pub was_sent : WasSent c past place content
  pub heard : Result Took ReceiveFault
  pub receives : ReceivesLabel c (shift_of past) (stream_in c.receiver old.receiver label) old.receiver place content now heard new.receiver
  pub tells : answer ≡ told heard
  pub sender : new.sender ≡ old.sender

-- feedback reaches the sender: the places that it names, by their numbers, are marked
abbrev pub MarksNamed : Config → PlaceWorld → (named : ℕ → Type 0) → Answer → PlaceWorld → Type 0
MarksNamed c old named (Marked marked) new = Marks c.repeats named old.sender marked.places new.sender × (new.receiver ≡ old.receiver)
MarksNamed c old named answer new = ⊥

abbrev pub HearsFeedbackOf : Config → PlaceWorld → Label → Answer → PlaceWorld → Type 0
HearsFeedbackOf c old (Feedback pairs) answer new = MarksNamed c old (Names pairs.items) answer new
HearsFeedbackOf c old label answer new = ⊥

-- what is under a label reaches its end: a packet of a place the receiver, feedback the sender
abbrev pub HearsPlace : Config → List Entry → PlaceWorld → Label → (place : Option ℕ) → (now : ℕ) → Answer → PlaceWorld → Type 0
HearsPlace c past old label (Some place) now answer new = ReceivesSent c past old label place now answer new
HearsPlace c past old label None now answer new = HearsFeedbackOf c old label answer new

abbrev pub HearsLabel : Config → List Entry → PlaceWorld → Label → (now : ℕ) → Answer → PlaceWorld → Type 0
HearsLabel c past old label now answer new = HearsPlace c past old label (place_of label) now answer new

-- why a send is refused, as far as places tell it
abbrev pub RefusesSend : (next : ℕ) → SendFault → Type 0
RefusesSend next PaddedEmpty = Unit {0}
RefusesSend next Exhausted = 2 ^ 48 ≤ next

-- an ask at a started receiver, by these pairs: for the first `longest_ask` of the due places
pub record AsksDueBy (c : Receiving) (old : ReceiverState) (now : ℕ) (pairs : List Pair) (new : Option ReceiverState) : Type 0 where
  pub due : List ℕ
  pub each : Lists due (λ k. is_due now c.delay c.retry c.asks (old.missing k))
  pub some : due ≢ []
  pub asked : AsksBy old (take longest_ask due) now pairs new

abbrev pub AsksAnyBy : Receiving → Option ReceiverState → (now : ℕ) → (pairs : List Pair) → Option ReceiverState → Type 0
AsksAnyBy c None now pairs new = ⊥
AsksAnyBy c (Some old) now pairs new = AsksDueBy c old now pairs new

-- no place is due
abbrev pub NoneDue : Receiving → Option ReceiverState → (now : ℕ) → Type 0
NoneDue c None now = Unit {0}
NoneDue c (Some old) now = (k : ℕ) → is_due now c.delay c.retry c.asks (old.missing k) ≡ false

-- Whatever was injected at the sender, it marks for the numbers of some NACKs, or is as it was.
abbrev pub MarksAnything : Config → PlaceWorld → Answer → PlaceWorld → Type 0
MarksAnything c old (Marked marked) new = (nacks : List Nack) × MarksNamed c old (NacksName nacks) (Marked marked) new
MarksAnything c old (FeedbackRefused fault) new = (new.sender ≡ old.sender) × (new.receiver ≡ old.receiver)
MarksAnything c old answer new = ⊥

-- One entry, after what came before it, and the place world before and after. What is injected at the receiver
-- may be anything, so no run over places has it.
abbrev pub PlaceStep : Config → List Entry → PlaceWorld → Entry → PlaceWorld → Type 0
PlaceStep c past old (Sent place index content) new =
    (place ≡ old.sender.next)
    × (place < 2 ^ 48)
    × (index ≡ length old.labels)
    × Sends c.history old.sender content new.sender
    × (new.labels ≡ old.labels ++ Media place ∷ [])
    × (new.receiver ≡ old.receiver)
PlaceStep c past old (SendRefused fault) new = RefusesSend old.sender.next fault × (new ≡ old)
PlaceStep c past old (Repaired place index) new =
    (index ≡ length old.labels)
    × ((entry : HistoryEntry) × Repairs old.sender place entry new.sender)
    × (new.labels ≡ old.labels ++ Repair place ∷ [])
    × (new.receiver ≡ old.receiver)
PlaceStep c past old NoRepair new = NoneMarked old.sender × (new ≡ old)
PlaceStep c past old (Asked index now) new =
    (index ≡ length old.labels)
    × (new.sender ≡ old.sender)
    × ((pairs : ArrayVec Pair) × AsksAnyBy c.receiver old.receiver now pairs.items new.receiver × (new.labels ≡ old.labels ++ Feedback pairs ∷ []))
PlaceStep c past old (NoAsk now) new = NoneDue c.receiver old.receiver now × (new ≡ old)
PlaceStep c past old Nothing new = new ≡ old
PlaceStep c past old (Delivered index label now answer) new =
    (slice_get old.labels index ≡ Some label) × HearsLabel c past old label now answer new × (new.labels ≡ old.labels)
PlaceStep c past old (Injected Receiver now answer) new = ⊥
PlaceStep c past old (Injected Sender now answer) new = MarksAnything c old answer new × (new.labels ≡ old.labels)
PlaceStep c past old (Played now played) new =
    PlaysAny c.receiver.patience old.receiver now played new.receiver × (new.sender ≡ old.sender) × (new.labels ≡ old.labels)

-- The log is a run of the place world, and this is what it leaves.
abbrev pub PlaceRun : Config → List Entry → PlaceWorld → Type 0
PlaceRun c [] end = end ≡ new_places c
PlaceRun c (entry ∷ before) end = (mid : PlaceWorld) × PlaceRun c before mid × PlaceStep c before mid entry end

-- What a world answers. Its log answers a list of events: each entry is the answer of its end in the state
-- that the events before it left. Events and log are newest first here, so "before" is the tail.
use Rattle.std.specs.Prelude.{◌≡◌, ℕ, ◌≤◌, List, [], ◌∷◌, ◌++◌, length, Option, Some, None, Result, Ok, Err, slice_get}
use Rattle.arrayvec.specs.ArrayVec.{ArrayVec}
use Rattle.rtpwire.specs.declared.content.Content.{Content}
use Rattle.rtpwire.specs.Session.{Streams}
use Rattle.fbwire.specs.declared.fault.FeedbackFault.{FeedbackFault}
use Rattle.fbwire.specs.declared.nack.Pair.{Pair}
use Rattle.fbwire.specs.Nack.{Nack, NackSpells}
use Rattle.sender.specs.declared.answer.Marked.{Marked as Marking}
use Rattle.sender.specs.History.{SenderState, new_history}
use Rattle.sender.specs.Sending.{SendsAt, SendsAny}
use Rattle.sender.specs.Feedback.{HearsFeedback}
use Rattle.sender.specs.Repairing.{RepairsAt, RepairsAny}
use Rattle.receiver.specs.declared.answer.Taken.{Taken as Took}
use Rattle.receiver.specs.declared.fault.ReceiveFault.{ReceiveFault}
use Rattle.receiver.specs.Window.{ReceiverState, PlaysAny}
use Rattle.receiver.specs.Heard.{Hears}
use Rattle.receiver.specs.Asks.{AsksAny}
use Rattle.world.specs.declared.event.Event.{Event}
use Rattle.world.specs.declared.event.Event.TheVariants.{Send, Repair as Retransmit, Ask, Deliver, Play, Inject}
use Rattle.world.specs.declared.event.End.{End}
use Rattle.world.specs.declared.event.End.TheVariants.{Sender, Receiver}
use Rattle.world.specs.declared.event.Label.{Label}
use Rattle.world.specs.declared.event.Label.TheVariants.{Media, Repair, Feedback}
use Rattle.world.specs.declared.event.Answer.{Answer}
use Rattle.world.specs.declared.event.Answer.TheVariants.{Taken, Refused, Marked, FeedbackRefused}
use Rattle.world.specs.declared.event.Entry.{Entry}
use Rattle.world.specs.declared.event.Entry.TheVariants.{Sent, SendRefused, Repaired, NoRepair, Asked, NoAsk, Nothing, Delivered, Injected, Played}
use Rattle.world.specs.Config.{Config, sending}
use Rattle.world.specs.Labels.{end_of}

-- a datagram on the wire, under its label
abbrev pub Item : Type 0
Item = Label × ArrayVec ℕ

-- Both ends, and the wire between them, which only grows.
pub record WorldState : Type 0 where
  pub sender : SenderState
  pub wire : List Item
  pub receiver : Option ReceiverState

abbrev pub new_stand : Config → WorldState
new_stand c = record { sender = new_history c.first c.repair_first; wire = []; receiver = None }

-- what the receiver answers, as the log tells it
abbrev pub told : Result Took ReceiveFault → Answer
told (Ok taken) = Taken taken
told (Err fault) = Refused fault

-- a datagram reaches the receiver, and leaves the sender as it was
pub record ReceiverHears (c : Config) (old : WorldState) (octets : List ℕ) (now : ℕ) (answer : Answer) (new : WorldState) : Type 0 where
  pub heard : Result Took ReceiveFault
  pub hears : Hears c.window c.receiver old.receiver octets now heard new.receiver
  pub tells : answer ≡ told heard
  pub sender : new.sender ≡ old.sender

-- what the sender answers, as the log tells it
abbrev pub told_marks : Result Marking FeedbackFault → Answer
told_marks (Ok marked) = Marked marked
told_marks (Err fault) = FeedbackRefused fault

-- a datagram reaches the sender, and leaves the receiver as it was
pub record SenderHears (c : Config) (old : WorldState) (octets : List ℕ) (answer : Answer) (new : WorldState) : Type 0 where
  pub heard : Result Marking FeedbackFault
  pub hears : HearsFeedback (sending c) old.sender octets heard new.sender
  pub tells : answer ≡ told_marks heard
  pub receiver : new.receiver ≡ old.receiver

-- a datagram reaches an end (its moment says nothing to the sender)
abbrev pub HearsAt : Config → End → WorldState → (octets : List ℕ) → (now : ℕ) → Answer → WorldState → Type 0
HearsAt c Sender old octets now answer new = SenderHears c old octets answer new
HearsAt c Receiver old octets now answer new = ReceiverHears c old octets now answer new

-- a content is sent, and lies on the wire
pub record SendsTo (c : Config) (old : WorldState) (content : Content) (padding place index : ℕ) (new : WorldState) : Type 0 where
  pub datagram : ArrayVec ℕ
  pub sends : SendsAt c.receiver.session c.history old.sender content padding place datagram.items new.sender
  pub index_is : index ≡ length old.wire
  pub wire : new.wire ≡ old.wire ++ (Media place, datagram) ∷ []
  pub receiver : new.receiver ≡ old.receiver

-- a place is retransmitted, and its datagram lies on the wire
pub record RepairsTo (c : Config) (old : WorldState) (place index : ℕ) (new : WorldState) : Type 0 where
  pub datagram : ArrayVec ℕ
  pub repairs : RepairsAt c.receiver.session old.sender place datagram.items new.sender
  pub index_is : index ≡ length old.wire
  pub wire : new.wire ≡ old.wire ++ (Repair place, datagram) ∷ []
  pub receiver : new.receiver ≡ old.receiver

-- the NACK of these pairs, from the session's receiver to its media source
abbrev pub nack_of : Streams → List Pair → Nack
nack_of s pairs = record { reporter = s.receiver_ssrc; media = s.media_ssrc; pairs = pairs }

-- missing places are asked for, and the ask lies on the wire, under the pairs that it spells
pub record AsksTo (c : Config) (old : WorldState) (now index : ℕ) (new : WorldState) : Type 0 where
  pub datagram : ArrayVec ℕ
  pub pairs : ArrayVec Pair
  pub asks : AsksAny c.receiver old.receiver now (Some datagram) new.receiver
  pub spells : NackSpells (nack_of c.receiver.session pairs.items) datagram.items
  pub index_is : index ≡ length old.wire
  pub wire : new.wire ≡ old.wire ++ (Feedback pairs, datagram) ∷ []
  pub sender : new.sender ≡ old.sender

-- the datagram at an index reaches the end that its label names
pub record DeliversAt (c : Config) (old : WorldState) (index : ℕ) (label : Label) (now : ℕ) (answer : Answer) (new : WorldState) : Type 0 where
  pub datagram : ArrayVec ℕ
  pub there : slice_get old.wire index ≡ Some (label, datagram)
  pub hears : HearsAt c (end_of label) old datagram.items now answer new
  pub wire : new.wire ≡ old.wire

-- One event, its entry, and the world before and after it.
abbrev pub Step : Config → WorldState → Event → Entry → WorldState → Type 0
Step c old (Send content padding) (Sent place index sent) new = (sent ≡ content) × SendsTo c old content padding place index new
Step c old (Send content padding) (SendRefused fault) new = SendsAny c.receiver.session c.history old.sender content padding (Err fault) new.sender × (new ≡ old)
Step c old Retransmit (Repaired place index) new = RepairsTo c old place index new
Step c old Retransmit NoRepair new = RepairsAny c.receiver.session old.sender None new.sender × (new ≡ old)
Step c old (Ask now) (Asked index moment) new = (moment ≡ now) × AsksTo c old now index new
Step c old (Ask now) (NoAsk moment) new = (moment ≡ now) × AsksAny c.receiver old.receiver now None new.receiver × (new ≡ old)
Step c old (Deliver index now) Nothing new = (length old.wire ≤ index) × (new ≡ old)
Step c old (Deliver index now) (Delivered at label moment answer) new = (at ≡ index) × (moment ≡ now) × DeliversAt c old index label now answer new
Step c old (Play now) (Played moment played) new =
    (moment ≡ now) × PlaysAny c.receiver.patience old.receiver now played new.receiver × (new.sender ≡ old.sender) × (new.wire ≡ old.wire)
Step c old (Inject end datagram now) (Injected at moment answer) new =
    (at ≡ end) × (moment ≡ now) × HearsAt c end old datagram.items now answer new × (new.wire ≡ old.wire)
-- no event has another entry
Step c old event entry new = ⊥

-- The log answers these events, and this is what it leaves.
abbrev pub Answers : Config → List Event → List Entry → WorldState → Type 0
Answers c [] [] end = end ≡ new_stand c
Answers c (event ∷ events) (entry ∷ before) end = (mid : WorldState) × Answers c events before mid × Step c mid event entry end
Answers c [] (entry ∷ before) end = ⊥
Answers c (event ∷ events) [] end = ⊥

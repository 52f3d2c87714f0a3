-- What the calls of a sender answer to C, by the endpoint that its handle held before and after, if it held one.
use Rattle.std.specs.Prelude.{◌≡◌, ◌≢◌, ◌⊎◌, ◌||◌, ℕ, Bool, true, false, if◌then◌else◌, ◌<◌, ◌≤◌, ℤ, pos, List, length, Option, Some, None, IsSome, IsSomeAnd, Result, Ok, Err, IsOk}
use Rattle.rtpwire.specs.declared.content.Content.{Content}
use Rattle.rtpwire.specs.declared.fault.ConfigFault.{ConfigFault}
use Rattle.rtpwire.specs.declared.fault.ConfigFault.TheVariants.{BadLimit}
use Rattle.rtpwire.specs.declared.fault.TooShort.{TooShort}
use Rattle.rtpwire.specs.declared.limits.TheConstants.{MAX_DATAGRAM}
use Rattle.rtpwire.specs.Fault.{config_number}
use Rattle.fbwire.specs.declared.fault.FeedbackFault.{FeedbackFault}
use Rattle.stores.specs.Past.{empty_past}
use Rattle.sender.specs.declared.answer.Marked.{Marked}
use Rattle.sender.specs.declared.fault.SendFault.{SendFault}
use Rattle.sender.specs.Fault.{send_number}
use Rattle.sender.specs.Repairing.{RepairsInto}
use Rattle.sender.specs.Sender.{Stays, new_sending, state_of}
use Rattle.sender.specs.Sending.{SendsInto}
use Rattle.sender.specs.Tail.{MarksLast}
use Rattle.endpoint.specs.declared.told.Told.{Told}
use Rattle.endpoint.specs.Demultiplex.{is_control}
use Rattle.endpoint.specs.Sending.{CountsSent, CountsRepaired, TellsKind}
use Rattle.endpoint.specs.SendCounts.{count_told, no_counts}
use Rattle.endpoint.specs.declared.resend_meter.ResendMeter.{ResendMeter}
use Rattle.endpoint.specs.declared.resend_rule.ResendRule.{ResendRule}
use Rattle.endpoint.specs.Moments.{told_sent, told_resent}
use Rattle.endpoint.specs.Passing.{Retransmits}
use Rattle.endpoint.specs.ResendCounts.{none_passed}
use Rattle.endpoint.specs.ResendMetering.{HearsTime, meter_fixed, meter_following, meter_resent, meter_sent, rule_by}
use Rattle.endpoint.specs.Resending.{always}
use Rattle.gozdrit.specs.declared.answers.SentPacket.{SentPacket}
use Rattle.gozdrit.specs.declared.config.SenderFields.{SenderFields}
use Rattle.gozdrit.specs.declared.header.Header.{Header}
use Rattle.gozdrit.specs.declared.heard.OutcomeFields.{OutcomeFields}
use Rattle.gozdrit.specs.declared.sizes.TheConstants.{OUTCOME, SENDER_CONFIG, SENT}
use Rattle.gozdrit.specs.Codes.{ok, no_end, is_held, out_of_memory, too_large, no_room, bad_size}
use Rattle.gozdrit.specs.Sizes.{SaysKnown}
use Rattle.gozdrit.specs.Config.{IsSession, HasSenderLimits, Fails, rule_of, sender_config}
use Rattle.gozdrit.specs.Ends.{Sender}
use Rattle.gozdrit.specs.Heard.{outcome_fields}
use Rattle.gozdrit.specs.Packet.{Fits, IsContent}

-- an endpoint that sent nothing, and was told no moment; nothing is measured, and nobody said whether its rule follows the path
abbrev pub IsNewSender : SenderFields → Sender → Type 0
IsNewSender f made =
    (made.endpoint.endpoint.core ≡ new_sending (sender_config f) (empty_past f.history)) × (made.endpoint.endpoint.counts ≡ no_counts)
    × (made.endpoint.rule ≡ rule_of f) × (length made.endpoint.moments ≡ f.history) × (made.endpoint.passed ≡ none_passed) × (made.now ≡ 0)
    × (made.config ≡ sender_config f) × (made.meter ≡ meter_fixed)
    × (made.is_told ≡ false) × (made.is_set ≡ false)

-- A configuration is refused for the first check that it fails; else there is an endpoint that sent nothing, or no memory
-- for it.
abbrev pub CreatesSender : SenderFields → (code : ℤ) → Option Sender → Type 0
CreatesSender f code after =
    ((fault : ConfigFault) × Fails f.session (HasSenderLimits f) fault × (code ≡ pos (config_number fault)) × (after ≡ None))
    ⊎ (IsSession f.session × HasSenderLimits f
    × (((code ≡ out_of_memory) × (after ≡ None))
    ⊎ ((code ≡ ok) × IsSomeAnd after (IsNewSender f))))

-- neither the rule nor the configuration nor the moment changes, nor what was said of them
pub record AreAsTheyWere (before after : Sender) : Type 0 where
  pub rule : after.endpoint.rule ≡ before.endpoint.rule
  pub config : after.config ≡ before.config
  pub now : after.now ≡ before.now
  pub told : after.is_told ≡ before.is_told
  pub set : after.is_set ≡ before.is_set

-- what is measured of a send, and of a retransmission
abbrev pub measured_send : Result (Result (ℕ × ℕ) SendFault) TooShort → (now : ℕ) → ResendMeter → ResendMeter
measured_send (Ok (Ok sent)) now m = meter_sent m now
measured_send (Ok (Err fault)) now m = m
measured_send (Err short) now m = m

abbrev pub measured_resend : Result (Option (ℕ × ℕ)) TooShort → (now : ℕ) → ResendMeter → ResendMeter
measured_resend (Ok (Some sent)) now m = meter_resent m now
measured_resend (Ok None) now m = m
measured_resend (Err short) now m = m

-- the rule in force, once a moment was told: the one that was configured, or one that follows the path
abbrev pub rule_now : Sender → ResendRule
rule_now s = if s.is_told then rule_by s.meter.interval s.endpoint.rule s.now else always

-- A moment is told. From the first one on the rule follows the path, unless that was set.
abbrev pub told_at : Sender → (now : ℕ) → Sender
told_at s now = record s { meter = if s.is_told || s.is_set then s.meter else meter_following; now = now; is_told = true }

-- It is said whether the rule follows the path.
abbrev pub set_to : (follows : Bool) → Sender → Sender
set_to follows s = record s { meter = if follows then meter_following else meter_fixed; is_set = true }

-- what the endpoint's own call promises of a send
pub record SendsAs (before : Sender) (content : Content) (padding : ℕ) (out : List ℕ) (answer : Result (Result (ℕ × ℕ) SendFault) TooShort) (out' : List ℕ) (after : Sender) : Type 0 where
  pub sends : SendsInto before.endpoint.endpoint.core.config.session before.endpoint.endpoint.core.past.capacity (state_of before.endpoint.endpoint.core) content padding out answer out' (state_of after.endpoint.endpoint.core)
  pub enough : MAX_DATAGRAM ≤ length out → IsOk answer
  pub stays : Stays before.endpoint.endpoint.core after.endpoint.endpoint.core
  pub counts : CountsSent content answer before.endpoint.endpoint.counts after.endpoint.endpoint.counts
  pub moments : after.endpoint.moments ≡ told_sent answer before.now before.endpoint.moments
  pub meter : after.meter ≡ measured_send answer before.now before.meter
  pub rest : AreAsTheyWere before after
  pub passed : after.endpoint.passed ≡ before.endpoint.passed

-- a send is told: the packet's extended sequence number and how many octets it has, or why there is none
abbrev pub TellsSend : Result (Result (ℕ × ℕ) SendFault) TooShort → (sent : SentPacket) → (code : ℤ) → (sent' : SentPacket) → Type 0
TellsSend (Ok (Ok (place, len))) sent code sent' = (code ≡ ok) × (sent' ≡ record { size = sent.size; sequence = place; length = len })
TellsSend (Ok (Err fault)) sent code sent' = code ≡ pos (send_number fault)
TellsSend (Err short) sent code sent' = code ≡ no_room

-- what the endpoint's own call promises of a datagram, by which the path is measured
pub record TellsAs (before : Sender) (octets : List ℕ) (answer : Result Told FeedbackFault) (after : Sender) : Type 0 where
  pub tells : TellsKind (is_control octets) before.endpoint.endpoint.core octets answer after.endpoint.endpoint.core
  pub counts : after.endpoint.endpoint.counts ≡ count_told answer before.endpoint.endpoint.counts
  pub moments : after.endpoint.moments ≡ before.endpoint.moments
  pub meter : HearsTime before.config before.endpoint.endpoint.core.past before.endpoint.moments octets before.now before.meter.interval after.meter.interval
  pub rest : AreAsTheyWere before after
  pub passed : after.endpoint.passed ≡ before.endpoint.passed

-- What the endpoint's own call promises of a retransmission, by the rule in force. By the rule that lets each go, it is the one of the least
-- marked place.
pub record RepairsAs (before : Sender) (out : List ℕ) (answer : Result (Option (ℕ × ℕ)) TooShort) (out' : List ℕ) (after : Sender) : Type 0 where
  pub retransmits : Retransmits (rule_now before) before.endpoint.moments before.endpoint.endpoint.core.config.session before.now (state_of before.endpoint.endpoint.core) before.endpoint.passed out answer out' (state_of after.endpoint.endpoint.core) after.endpoint.passed
  pub enough : MAX_DATAGRAM ≤ length out → IsOk answer
  pub stays : Stays before.endpoint.endpoint.core after.endpoint.endpoint.core
  pub counts : CountsRepaired answer before.endpoint.endpoint.counts after.endpoint.endpoint.counts
  pub moments : after.endpoint.moments ≡ told_resent answer before.now before.endpoint.moments
  pub meter : after.meter ≡ measured_resend answer before.now before.meter
  pub rest : AreAsTheyWere before after
  pub plain : rule_now before ≡ always → RepairsInto before.endpoint.endpoint.core.config.session (state_of before.endpoint.endpoint.core) out answer out' (state_of after.endpoint.endpoint.core)
  pub none : rule_now before ≡ always → answer ≡ Ok None → after.endpoint.endpoint.core ≡ before.endpoint.endpoint.core

-- there is room: by a rule that may pass packets over, for any datagram
abbrev pub HasRoomBy : ResendRule → (out : List ℕ) → Type 0
HasRoomBy rule out = (rule ≡ always) ⊎ (MAX_DATAGRAM ≤ length out)

-- a retransmission is told; where there is none, the length is 0, and the number is as it was
abbrev pub TellsRepair : Result (Option (ℕ × ℕ)) TooShort → (sent : SentPacket) → (code : ℤ) → (sent' : SentPacket) → Type 0
TellsRepair (Ok (Some (place, len))) sent code sent' = (code ≡ ok) × (sent' ≡ record { size = sent.size; sequence = place; length = len })
TellsRepair (Ok None) sent code sent' = (code ≡ ok) × (sent' ≡ record sent { length = 0 })
TellsRepair (Err short) sent code sent' = code ≡ no_room

-- what the endpoint's own call promises of its last packet
pub record MarksAs (before : Sender) (marked : Marked) (after : Sender) : Type 0 where
  pub marks : MarksLast before.endpoint.endpoint.core.config.repeats (state_of before.endpoint.endpoint.core) marked (state_of after.endpoint.endpoint.core)
  pub none : marked.places ≡ 0 → after.endpoint.endpoint.core ≡ before.endpoint.endpoint.core
  pub stays : Stays before.endpoint.endpoint.core after.endpoint.endpoint.core
  pub counts : after.endpoint.endpoint.counts ≡ before.endpoint.endpoint.counts
  pub moments : after.endpoint.moments ≡ before.endpoint.moments
  pub meter : after.meter ≡ before.meter
  pub rest : AreAsTheyWere before after
  pub passed : after.endpoint.passed ≡ before.endpoint.passed

-- `gozdrit_sender_new`
pub record AnswersSenderNew (f : SenderFields) (rest : List ℕ) (old : Option Sender) (code : ℤ) (new : Option Sender) : Type 0 where
  pub held : IsSome old → (code ≡ is_held) × (new ≡ old)
  pub unknown : old ≡ None → (SaysKnown SENDER_CONFIG f.size rest → ⊥) → (code ≡ bad_size) × (new ≡ old)
  pub made : old ≡ None → SaysKnown SENDER_CONFIG f.size rest → CreatesSender f code new

-- `gozdrit_send`
pub record AnswersSend (old : Option Sender) (header : Header) (payload : List ℕ) (padding : ℕ) (sent : SentPacket) (out : List ℕ) (code : ℤ) (new : Option Sender) (sent' : SentPacket) (out' : List ℕ) : Type 0 where
  pub none : old ≡ None → code ≡ no_end
  pub short : IsSome old → sent.size < SENT → code ≡ bad_size
  pub too_large : IsSome old → SENT ≤ sent.size → (Fits header payload → ⊥) → code ≡ too_large
  pub sends : (before : Sender) → old ≡ Some before → SENT ≤ sent.size → Fits header payload
      → (content : Content) × IsContent header payload content × (answer : Result (Result (ℕ × ℕ) SendFault) TooShort)
      × IsSomeAnd new (SendsAs before content padding out answer out') × TellsSend answer sent code sent'
  pub refused : code ≢ ok → (new ≡ old) × (sent' ≡ sent) × (out' ≡ out)

-- `gozdrit_feedback`
pub record AnswersFeedback (old : Option Sender) (octets : List ℕ) (told : OutcomeFields) (code : ℤ) (new : Option Sender) (told' : OutcomeFields) : Type 0 where
  pub none : old ≡ None → (code ≡ no_end) × (new ≡ old) × (told' ≡ told)
  pub short : IsSome old → told.size < OUTCOME → (code ≡ bad_size) × (new ≡ old) × (told' ≡ told)
  pub tells : (before : Sender) → old ≡ Some before → OUTCOME ≤ told.size
      → (code ≡ ok) × (answer : Result Told FeedbackFault) × IsSomeAnd new (TellsAs before octets answer) × (told' ≡ outcome_fields told.size answer)

-- a retransmission of a sender
pub record RetransmitsTo (before : Sender) (sent : SentPacket) (out : List ℕ) (code : ℤ) (after : Sender) (sent' : SentPacket) (out' : List ℕ) : Type 0 where
  pub repairs : HasRoomBy (rule_now before) out → (answer : Result (Option (ℕ × ℕ)) TooShort) × RepairsAs before out answer out' after × TellsRepair answer sent code sent'
  pub short : (HasRoomBy (rule_now before) out → ⊥) → code ≡ no_room
  pub refused : code ≢ ok → (after ≡ before) × (sent' ≡ sent) × (out' ≡ out)

-- `gozdrit_retransmit`
pub record AnswersRetransmit (old : Option Sender) (sent : SentPacket) (out : List ℕ) (code : ℤ) (new : Option Sender) (sent' : SentPacket) (out' : List ℕ) : Type 0 where
  pub none : old ≡ None → code ≡ no_end
  pub short : IsSome old → sent.size < SENT → code ≡ bad_size
  pub repairs : (before : Sender) → old ≡ Some before → SENT ≤ sent.size → IsSomeAnd new (λ after. RetransmitsTo before sent out code after sent' out')
  pub refused : code ≢ ok → (new ≡ old) × (sent' ≡ sent) × (out' ≡ out)

-- `gozdrit_sender_set_time`
pub record AnswersTime (old : Option Sender) (now : ℕ) (code : ℤ) (new : Option Sender) : Type 0 where
  pub none : old ≡ None → (code ≡ no_end) × (new ≡ old)
  pub tells : (before : Sender) → old ≡ Some before → (code ≡ ok) × (new ≡ Some (told_at before now))

-- `gozdrit_sender_set_adaptive`: from now on the path is measured, and the rule follows it, or the rule holds as it was configured
pub record AnswersAdapt (old : Option Sender) (adaptive : ℕ) (code : ℤ) (new : Option Sender) : Type 0 where
  pub none : old ≡ None → (code ≡ no_end) × (new ≡ old)
  pub bad : IsSome old → 1 < adaptive → (code ≡ pos (config_number BadLimit)) × (new ≡ old)
  pub fixed : (before : Sender) → old ≡ Some before → adaptive ≡ 0 → (code ≡ ok) × (new ≡ Some (set_to false before))
  pub follows : (before : Sender) → old ≡ Some before → adaptive ≡ 1 → (code ≡ ok) × (new ≡ Some (set_to true before))

-- `gozdrit_tail_loss_probe`
pub record AnswersMarkLast (old : Option Sender) (marked : ℕ) (code : ℤ) (new : Option Sender) (marked' : ℕ) : Type 0 where
  pub none : old ≡ None → (code ≡ no_end) × (new ≡ old) × (marked' ≡ marked)
  pub marks : (before : Sender) → old ≡ Some before
      → (code ≡ ok) × (answer : Marked) × IsSomeAnd new (MarksAs before answer) × (marked' ≡ answer.places)

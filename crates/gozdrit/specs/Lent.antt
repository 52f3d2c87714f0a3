-- What each export answers to what C lends it: what its call answers to the values (`Answers..`, each beside its end), or
-- `null_pointer` where a pointer is null where something has to lie. What is lent to be read stays as it is.
use Rattle.std.specs.Prelude.{◌≡◌, ℕ, ℤ, List, Option, Some, None, IsSomeAnd}
use Rattle.contexts.specs.declared.inbound.Inbound.{Inbound}
use Rattle.contexts.specs.declared.outbound.Outbound.{Outbound}
use Rattle.gozdrit.specs.Null.{Answers1, Answers2, Answers3, Answers4, Answers5}
use Rattle.gozdrit.specs.declared.answers.KnownTimeout.{KnownTimeout}
use Rattle.gozdrit.specs.declared.answers.KnownSequence.{KnownSequence}
use Rattle.gozdrit.specs.declared.answers.KnownSsrc.{KnownSsrc}
use Rattle.gozdrit.specs.declared.answers.KnownTimes.{KnownTimes}
use Rattle.gozdrit.specs.declared.answers.PlayedPacket.{PlayedPacket}
use Rattle.gozdrit.specs.declared.answers.SentPacket.{SentPacket}
use Rattle.gozdrit.specs.declared.config.ReceiverFields.{ReceiverFields}
use Rattle.gozdrit.specs.declared.config.SenderFields.{SenderFields}
use Rattle.gozdrit.specs.declared.counts.ReceiverCounts.{ReceiverCounts}
use Rattle.gozdrit.specs.declared.counts.ProbeCounts.{ProbeCounts}
use Rattle.gozdrit.specs.declared.counts.SenderCounts.{SenderCounts}
use Rattle.gozdrit.specs.declared.handle.Handle.{Handle}
use Rattle.gozdrit.specs.declared.header.Header.{Header}
use Rattle.gozdrit.specs.declared.heard.ReceivedFields.{ReceivedFields}
use Rattle.gozdrit.specs.declared.heard.OutcomeFields.{OutcomeFields}
use Rattle.gozdrit.specs.declared.packets.PacketFields.{PacketFields}
use Rattle.gozdrit.specs.declared.sizes.TheConstants.{RECEIVER_CONFIG, SENDER_CONFIG}
use Rattle.gozdrit.specs.Codes.{null_pointer, ok}
use Rattle.gozdrit.specs.Sizes.{Fills, told_behind}
use Rattle.gozdrit.specs.Defaults.{usual_receiver, usual_sender}
use Rattle.gozdrit.specs.Ends.{Receiver, Sender}
use Rattle.gozdrit.specs.Freeing.{AnswersFree}
use Rattle.gozdrit.specs.Packets.{AnswersRead, AnswersWrite}
use Rattle.gozdrit.specs.Protection.{AnswersProtect, AnswersSrtpNew, AnswersUnprotect, IsNewInbound, IsNewOutbound}
use Rattle.gozdrit.specs.Reading.{AnswersMissing, AnswersSsrc, AnswersNext, AnswersHighest, AnswersTimeout, AnswersReceiverTimes, AnswersReceiverCounts, AnswersProbeCounts, AnswersSenderCounts}
use Rattle.gozdrit.specs.Receiving.{AnswersReceiverNew, AnswersReceive, AnswersPlay, AnswersNack, AnswersBegin, AnswersRestart, AnswersTimes, AnswersFollow, AnswersCopies, AnswersBudget}
use Rattle.gozdrit.specs.Typing.{AnswersTypes, Enters, Leaves}
use Rattle.gozdrit.specs.Sending.{AnswersAdapt, AnswersSenderNew, AnswersSend, AnswersFeedback, AnswersRetransmit, AnswersMarkLast, AnswersTime}

-- `gozdrit_sender_defaults`
abbrev pub SenderDefaultsFor : (size : ℕ) → Option SenderFields → List ℕ → ℤ → Option SenderFields → List ℕ → Type 0
SenderDefaultsFor size (Some f) rest code config' rest' = IsSomeAnd config' (λ f'. Fills SENDER_CONFIG size (usual_sender size) f rest code f' rest')
SenderDefaultsFor size None rest code config' rest' = (code ≡ null_pointer) × (config' ≡ None) × (rest' ≡ rest)

-- `gozdrit_receiver_defaults`
abbrev pub ReceiverDefaultsFor : (size : ℕ) → Option ReceiverFields → List ℕ → ℤ → Option ReceiverFields → List ℕ → Type 0
ReceiverDefaultsFor size (Some f) rest code config' rest' = IsSomeAnd config' (λ f'. Fills RECEIVER_CONFIG size (usual_receiver size) f rest code f' rest')
ReceiverDefaultsFor size None rest code config' rest' = (code ≡ null_pointer) × (config' ≡ None) × (rest' ≡ rest)

-- `gozdrit_sender_new`
abbrev pub SenderNewFor : Option SenderFields → List ℕ → Option (Handle Sender) → ℤ → Option SenderFields → List ℕ → Option (Handle Sender) → Type 0
SenderNewFor config rest sender code config' rest' sender' =
    (rest' ≡ rest) × Answers2 null_pointer (λ f sender code f' sender'.
    (f' ≡ f) × AnswersSenderNew f rest sender.inside code sender'.inside) config sender code config' sender'

-- `gozdrit_sender_free`
abbrev pub SenderFreeFor : Option (Handle Sender) → ℤ → Option (Handle Sender) → Type 0
SenderFreeFor =
    Answers1 null_pointer (λ sender code sender'.
    AnswersFree sender.inside code sender'.inside)

-- `gozdrit_send`
abbrev pub SendFor : (padding : ℕ) → Option (Handle Sender) → Option Header → Option (List ℕ) → Option SentPacket → Option (List ℕ) → ℤ → Option (Handle Sender) → Option Header → Option (List ℕ) → Option SentPacket → Option (List ℕ) → Type 0
SendFor padding =
    Answers5 null_pointer (λ sender header payload sent out code sender' header' payload' sent' out'.
    (header' ≡ header) × (payload' ≡ payload) × AnswersSend sender.inside header payload padding sent out code sender'.inside sent' out')

-- `gozdrit_feedback`
abbrev pub FeedbackFor : Option (Handle Sender) → Option (List ℕ) → Option OutcomeFields → ℤ → Option (Handle Sender) → Option (List ℕ) → Option OutcomeFields → Type 0
FeedbackFor =
    Answers3 null_pointer (λ sender octets told code sender' octets' told'.
    (octets' ≡ octets) × AnswersFeedback sender.inside octets told code sender'.inside told')

-- `gozdrit_retransmit`
abbrev pub RetransmitFor : Option (Handle Sender) → Option SentPacket → Option (List ℕ) → ℤ → Option (Handle Sender) → Option SentPacket → Option (List ℕ) → Type 0
RetransmitFor =
    Answers3 null_pointer (λ sender sent out code sender' sent' out'.
    AnswersRetransmit sender.inside sent out code sender'.inside sent' out')

-- `gozdrit_tail_loss_probe`
abbrev pub MarkLastFor : Option (Handle Sender) → Option ℕ → ℤ → Option (Handle Sender) → Option ℕ → Type 0
MarkLastFor =
    Answers2 null_pointer (λ sender marked code sender' marked'.
    AnswersMarkLast sender.inside marked code sender'.inside marked')

-- `gozdrit_sender_set_time`
abbrev pub SenderTimeFor : (now : ℕ) → Option (Handle Sender) → ℤ → Option (Handle Sender) → Type 0
SenderTimeFor now =
    Answers1 null_pointer (λ sender code sender'.
    AnswersTime sender.inside now code sender'.inside)

-- `gozdrit_sender_set_adaptive`
abbrev pub AdaptFor : (adaptive : ℕ) → Option (Handle Sender) → ℤ → Option (Handle Sender) → Type 0
AdaptFor adaptive =
    Answers1 null_pointer (λ sender code sender'.
    AnswersAdapt sender.inside adaptive code sender'.inside)

-- `gozdrit_sender_counts`
abbrev pub SenderCountsFor : Option (Handle Sender) → Option SenderCounts → ℤ → Option (Handle Sender) → Option SenderCounts → Type 0
SenderCountsFor =
    Answers2 null_pointer (λ sender counts code sender' counts'.
    (sender' ≡ sender) × AnswersSenderCounts sender.inside counts code sender'.inside counts')

-- `gozdrit_receiver_new`
abbrev pub ReceiverNewFor : Option ReceiverFields → List ℕ → Option (Handle Receiver) → ℤ → Option ReceiverFields → List ℕ → Option (Handle Receiver) → Type 0
ReceiverNewFor config rest receiver code config' rest' receiver' =
    (rest' ≡ rest) × Answers2 null_pointer (λ f receiver code f' receiver'.
    (f' ≡ f) × AnswersReceiverNew f rest receiver.inside code receiver'.inside) config receiver code config' receiver'

-- `gozdrit_receiver_free`
abbrev pub ReceiverFreeFor : Option (Handle Receiver) → ℤ → Option (Handle Receiver) → Type 0
ReceiverFreeFor =
    Answers1 null_pointer (λ receiver code receiver'.
    AnswersFree receiver.inside code receiver'.inside)

-- `gozdrit_receive`
abbrev pub ReceiveFor : (now : ℕ) → Option (Handle Receiver) → Option (List ℕ) → Option ReceivedFields → ℤ → Option (Handle Receiver) → Option (List ℕ) → Option ReceivedFields → Type 0
ReceiveFor now =
    Answers3 null_pointer (λ receiver octets heard code receiver' octets' heard'.
    (octets' ≡ octets) × AnswersReceive receiver.inside octets now heard code receiver'.inside heard')

-- `gozdrit_play`
abbrev pub PlayFor : (now : ℕ) → Option (Handle Receiver) → Option PlayedPacket → Option (List ℕ) → ℤ → Option (Handle Receiver) → Option PlayedPacket → Option (List ℕ) → Type 0
PlayFor now =
    Answers3 null_pointer (λ receiver played payload code receiver' played' payload'.
    AnswersPlay receiver.inside now played payload code receiver'.inside played' payload')

-- `gozdrit_nack`
abbrev pub NackFor : (now : ℕ) → (most : ℕ) → Option (Handle Receiver) → Option ℕ → Option (List ℕ) → ℤ → Option (Handle Receiver) → Option ℕ → Option (List ℕ) → Type 0
NackFor now most =
    Answers3 null_pointer (λ receiver count out code receiver' count' out'.
    AnswersNack receiver.inside now most count out code receiver'.inside count' out')

-- `gozdrit_begin`
abbrev pub BeginFor : (first : ℕ) → Option (Handle Receiver) → ℤ → Option (Handle Receiver) → Type 0
BeginFor first =
    Answers1 null_pointer (λ receiver code receiver'.
    AnswersBegin receiver.inside first code receiver'.inside)

-- `gozdrit_reset`
abbrev pub RestartFor : Option (Handle Receiver) → ℤ → Option (Handle Receiver) → Type 0
RestartFor =
    Answers1 null_pointer (λ receiver code receiver'.
    AnswersRestart receiver.inside code receiver'.inside)

-- `gozdrit_set_times`
abbrev pub TimesFor : (patience : ℕ) → (delay : ℕ) → (retry : ℕ) → Option (Handle Receiver) → ℤ → Option (Handle Receiver) → Type 0
TimesFor patience delay retry =
    Answers1 null_pointer (λ receiver code receiver'.
    AnswersTimes receiver.inside patience delay retry code receiver'.inside)

-- `gozdrit_set_adaptive`
abbrev pub FollowFor : (follows : ℕ) → Option (Handle Receiver) → ℤ → Option (Handle Receiver) → Type 0
FollowFor follows =
    Answers1 null_pointer (λ receiver code receiver'.
    AnswersFollow receiver.inside follows code receiver'.inside)

-- `gozdrit_set_nack_copies`
abbrev pub CopiesFor : (copies : ℕ) → Option (Handle Receiver) → ℤ → Option (Handle Receiver) → Type 0
CopiesFor copies =
    Answers1 null_pointer (λ receiver code receiver'.
    AnswersCopies receiver.inside copies code receiver'.inside)

-- `gozdrit_set_nack_budget`
abbrev pub BudgetFor : (earned : ℕ) → Option (Handle Receiver) → ℤ → Option (Handle Receiver) → Type 0
BudgetFor earned =
    Answers1 null_pointer (λ receiver code receiver'.
    AnswersBudget receiver.inside earned code receiver'.inside)

-- `gozdrit_missing`
abbrev pub MissingFor : Option (Handle Receiver) → Option ℕ → ℤ → Option (Handle Receiver) → Option ℕ → Type 0
MissingFor =
    Answers2 null_pointer (λ receiver count code receiver' count'.
    (receiver' ≡ receiver) × AnswersMissing receiver.inside count code receiver'.inside count')

-- `gozdrit_rtx_ssrc`
abbrev pub SsrcFor : Option (Handle Receiver) → Option KnownSsrc → ℤ → Option (Handle Receiver) → Option KnownSsrc → Type 0
SsrcFor =
    Answers2 null_pointer (λ receiver source code receiver' source'.
    (receiver' ≡ receiver) × AnswersSsrc receiver.inside source code receiver'.inside source')

-- `gozdrit_next_sequence`
abbrev pub NextFor : Option (Handle Receiver) → Option KnownSequence → ℤ → Option (Handle Receiver) → Option KnownSequence → Type 0
NextFor =
    Answers2 null_pointer (λ receiver sequence code receiver' sequence'.
    (receiver' ≡ receiver) × AnswersNext receiver.inside sequence code receiver'.inside sequence')

-- `gozdrit_highest_sequence`
abbrev pub HighestFor : Option (Handle Receiver) → Option KnownSequence → ℤ → Option (Handle Receiver) → Option KnownSequence → Type 0
HighestFor =
    Answers2 null_pointer (λ receiver sequence code receiver' sequence'.
    (receiver' ≡ receiver) × AnswersHighest receiver.inside sequence code receiver'.inside sequence')

-- `gozdrit_next_timeout`
abbrev pub TimeoutFor : Option (Handle Receiver) → Option KnownTimeout → ℤ → Option (Handle Receiver) → Option KnownTimeout → Type 0
TimeoutFor =
    Answers2 null_pointer (λ receiver moment code receiver' moment'.
    (receiver' ≡ receiver) × AnswersTimeout receiver.inside moment code receiver'.inside moment')

-- `gozdrit_receiver_times`
abbrev pub ReceiverTimesFor : Option (Handle Receiver) → Option KnownTimes → ℤ → Option (Handle Receiver) → Option KnownTimes → Type 0
ReceiverTimesFor =
    Answers2 null_pointer (λ receiver times code receiver' times'.
    (receiver' ≡ receiver) × AnswersReceiverTimes receiver.inside times code receiver'.inside times')

-- Behind the counts of version 2.0 a receiver tells how many packets jumps passed over. Nothing is told where the call refuses.
abbrev pub TellsSkipped : Option (Handle Receiver) → ℤ → (rest rest' : List ℕ) → Type 0
TellsSkipped None code rest rest' = rest' ≡ rest
TellsSkipped (Some receiver) code rest rest' =
    ((r : Receiver) → receiver.inside ≡ Some r → code ≡ ok → rest' ≡ told_behind r.endpoint.endpoint.counts.skipped rest) × ((code ≡ ok → ⊥) → rest' ≡ rest)

-- `gozdrit_receiver_counts`
abbrev pub ReceiverCountsFor : Option (Handle Receiver) → Option ReceiverCounts → List ℕ → ℤ → Option (Handle Receiver) → Option ReceiverCounts → List ℕ → Type 0
ReceiverCountsFor receiver counts rest code receiver' counts' rest' =
    TellsSkipped receiver code rest rest' × Answers2 null_pointer (λ receiver counts code receiver' counts'.
    (receiver' ≡ receiver) × AnswersReceiverCounts receiver.inside counts code receiver'.inside counts') receiver counts code receiver' counts'

-- `gozdrit_receiver_probe_counts`
abbrev pub ProbeCountsFor : Option (Handle Receiver) → Option ProbeCounts → ℤ → Option (Handle Receiver) → Option ProbeCounts → Type 0
ProbeCountsFor =
    Answers2 null_pointer (λ receiver kinds code receiver' kinds'.
    (receiver' ≡ receiver) × AnswersProbeCounts receiver.inside kinds code receiver'.inside kinds')

-- `gozdrit_rtp_read`
abbrev pub ReadFor : Option (List ℕ) → Option PacketFields → ℤ → Option (List ℕ) → Option PacketFields → Type 0
ReadFor =
    Answers2 null_pointer (λ octets packet code octets' packet'.
    (octets' ≡ octets) × AnswersRead octets packet code packet')

-- `gozdrit_rtp_write`
abbrev pub WriteFor : Option PacketFields → Option (List ℕ) → Option ℕ → Option (List ℕ) → ℤ → Option PacketFields → Option (List ℕ) → Option ℕ → Option (List ℕ) → Type 0
WriteFor =
    Answers4 null_pointer (λ packet payload count out code packet' payload' count' out'.
    (packet' ≡ packet) × (payload' ≡ payload) × AnswersWrite packet payload count out code count' out')

-- `gozdrit_srtp_sender_new`
abbrev pub SrtpSenderNewFor : (profile : ℕ) → Option (List ℕ) → Option (Handle Outbound) → ℤ → Option (List ℕ) → Option (Handle Outbound) → Type 0
SrtpSenderNewFor profile =
    Answers2 null_pointer (λ key sender code key' sender'.
    (key' ≡ key) × AnswersSrtpNew IsNewOutbound profile key sender.inside code sender'.inside)

-- `gozdrit_srtp_sender_free`
abbrev pub SrtpSenderFreeFor : Option (Handle Outbound) → ℤ → Option (Handle Outbound) → Type 0
SrtpSenderFreeFor =
    Answers1 null_pointer (λ sender code sender'.
    AnswersFree sender.inside code sender'.inside)

-- `gozdrit_srtp_protect`
abbrev pub ProtectFor : (length : ℕ) → Option (Handle Outbound) → Option (List ℕ) → Option ℕ → ℤ → Option (Handle Outbound) → Option (List ℕ) → Option ℕ → Type 0
ProtectFor length =
    Answers3 null_pointer (λ sender octets told code sender' octets' told'.
    AnswersProtect sender.inside octets length told code sender'.inside octets' told')

-- `gozdrit_srtp_receiver_new`
abbrev pub SrtpReceiverNewFor : (profile : ℕ) → Option (List ℕ) → Option (Handle Inbound) → ℤ → Option (List ℕ) → Option (Handle Inbound) → Type 0
SrtpReceiverNewFor profile =
    Answers2 null_pointer (λ key receiver code key' receiver'.
    (key' ≡ key) × AnswersSrtpNew IsNewInbound profile key receiver.inside code receiver'.inside)

-- `gozdrit_srtp_receiver_free`
abbrev pub SrtpReceiverFreeFor : Option (Handle Inbound) → ℤ → Option (Handle Inbound) → Type 0
SrtpReceiverFreeFor =
    Answers1 null_pointer (λ receiver code receiver'.
    AnswersFree receiver.inside code receiver'.inside)

-- `gozdrit_srtp_unprotect`
abbrev pub UnprotectFor : Option (Handle Inbound) → Option (List ℕ) → Option ℕ → ℤ → Option (Handle Inbound) → Option (List ℕ) → Option ℕ → Type 0
UnprotectFor =
    Answers3 null_pointer (λ receiver octets told code receiver' octets' told'.
    AnswersUnprotect receiver.inside octets told code receiver'.inside octets' told')

-- `gozdrit_types_enter`
abbrev pub TypesEnterFor : (length : ℕ) → Option (List ℕ) → Option (List ℕ) → Option ℕ → ℤ → Option (List ℕ) → Option (List ℕ) → Option ℕ → Type 0
TypesEnterFor length =
    Answers3 null_pointer (λ pairs octets told code pairs' octets' told'.
    (pairs' ≡ pairs) × AnswersTypes Enters pairs octets length told code octets' told')

-- `gozdrit_types_leave`
abbrev pub TypesLeaveFor : (length : ℕ) → Option (List ℕ) → Option (List ℕ) → Option ℕ → ℤ → Option (List ℕ) → Option (List ℕ) → Option ℕ → Type 0
TypesLeaveFor length =
    Answers3 null_pointer (λ pairs octets told code pairs' octets' told'.
    (pairs' ≡ pairs) × AnswersTypes Leaves pairs octets length told code octets' told')

-- What the handles of C hold: the endpoints over ring stores, and what protects datagrams.
use denote.RattleType.{RattleType}
use Rattle.contexts.specs.contracts.inbound.Inbound as inbound
use Rattle.contexts.specs.contracts.outbound.Outbound as outbound
use Rattle.gozdrit.specs.declared.following.MeteredReceiver.{MeteredReceiver}
use Rattle.gozdrit.specs.declared.sending.TimedSender.{TimedSender}
use Rattle.gozdrit.specs.contracts.following.MeteredReceiver as receiving
use Rattle.gozdrit.specs.contracts.sending.TimedSender as sending
use Rattle.gozdrit.specs.contracts.handle.Handle as handle

abbrev pub Receiver : Type 0
Receiver = MeteredReceiver

abbrev pub Sender : Type 0
Sender = TimedSender

-- their handles, as they lie in C's memory
abbrev pub ReceiverRow : RattleType
ReceiverRow = handle.the_row receiving.the_row

abbrev pub SenderRow : RattleType
SenderRow = handle.the_row sending.the_row

abbrev pub SrtpReceiverRow : RattleType
SrtpReceiverRow = handle.the_row inbound.the_row

abbrev pub SrtpSenderRow : RattleType
SrtpSenderRow = handle.the_row outbound.the_row

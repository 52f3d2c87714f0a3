-- The refusal numbers of this crate.
use Rattle.std.specs.Prelude.{ℕ}
use Rattle.places.specs.Fault.{place_fault_number}
use Rattle.rtpwire.specs.Fault.{rtp_number, content_number}
use Rattle.stores.specs.Fault.{put_number}
use Rattle.receiver.specs.declared.fault.ReceiveFault.{ReceiveFault}
use Rattle.receiver.specs.declared.fault.ReceiveFault.TheVariants as refused

abbrev pub receive_number : ReceiveFault → ℕ
receive_number (refused.Rtp fault) = rtp_number fault
receive_number refused.UnknownSource = 31
receive_number refused.UnknownType = 32
receive_number (refused.Content fault) = content_number fault
receive_number refused.NotStarted = 33
receive_number (refused.Place fault) = place_fault_number fault
receive_number refused.Unasked = 38
receive_number (refused.Put fault) = put_number fault

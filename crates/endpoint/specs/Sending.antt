-- A sending endpoint: what it does with a datagram of the far side, over a sender.
use Rattle.std.specs.Prelude.{◌≡◌, ℕ, Bool, true, false, List, length, Option, Some, None, Result, Ok, Err, OnErr}
use Rattle.rtpwire.specs.declared.content.Content.{Content}
use Rattle.rtpwire.specs.declared.fault.TooShort.{TooShort}
use Rattle.fbwire.specs.declared.fault.FeedbackFault.{FeedbackFault}
use Rattle.fbwire.specs.declared.fault.FeedbackFault.TheVariants.{NotRtpfb, NotNack}
use Rattle.sender.specs.declared.fault.SendFault.{SendFault}
use Rattle.sender.specs.declared.answer.Shared.{Shared}
use Rattle.sender.specs.Sender.{Sending, Stays, state_of}
use Rattle.sender.specs.Shared.{HearsShared}
use Rattle.endpoint.specs.declared.told.Told.{Told}
use Rattle.endpoint.specs.declared.told.Told.TheVariants as told
use Rattle.endpoint.specs.declared.send_counts.SendCounts.{SendCounts}
use Rattle.endpoint.specs.SendCounts.{count_sent, count_repaired}

-- One datagram with RTCP at a sender, which is as it was where that refuses it.
pub record HandedFeedback (old : Sending) (octets : List ℕ) (answer : Result Shared FeedbackFault) (new : Sending) : Type 0 where
  pub hears : HearsShared old.config (state_of old) octets answer (state_of new)
  pub refused : OnErr answer (new ≡ old)
  pub stays : Stays old new

-- The sender's answer as the endpoint's: RTCP that is whole and has no generic NACK is nothing wrong.
abbrev pub as_told : Result Shared FeedbackFault → Result Told FeedbackFault
as_told (Ok shared) = Ok (told.Feedback shared)
as_told (Err NotRtpfb) = Ok told.Reports
as_told (Err NotNack) = Ok told.Reports
as_told (Err fault) = Err fault

pub record HearsControl (old : Sending) (octets : List ℕ) (answer : Result Told FeedbackFault) (new : Sending) : Type 0 where
  pub shared : Result Shared FeedbackFault
  pub handed : HandedFeedback old octets shared new
  pub answered : answer ≡ as_told shared

-- One datagram of the far side at a sending endpoint: RTP changes nothing, and RTCP is heard.
abbrev pub TellsKind : (control : Bool) → Sending → (octets : List ℕ) → Result Told FeedbackFault → Sending → Type 0
TellsKind true old octets answer new = HearsControl old octets answer new
TellsKind false old octets answer new = (answer ≡ Ok told.Media) × (new ≡ old)

-- a packet that was sent is counted, with the octets of its payload
abbrev pub CountsSent : Content → Result (Result (ℕ × ℕ) SendFault) TooShort → SendCounts → SendCounts → Type 0
CountsSent content (Ok (Ok sent)) old new = new ≡ count_sent (length content.payload.items) old
CountsSent content (Ok (Err fault)) old new = new ≡ old
CountsSent content (Err short) old new = new ≡ old

-- and a retransmission
abbrev pub CountsRepaired : Result (Option (ℕ × ℕ)) TooShort → SendCounts → SendCounts → Type 0
CountsRepaired (Ok (Some sent)) old new = new ≡ count_repaired old
CountsRepaired (Ok None) old new = new ≡ old
CountsRepaired (Err short) old new = new ≡ old

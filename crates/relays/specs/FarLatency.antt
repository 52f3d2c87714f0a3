-- Until when a retransmission can be in time, by the latency that the far side tells and by the stream's own gaps.
-- (RFC 4588 leaves open how long a sender keeps packets, which its section 8.1 has a session say as `rtx-time`; this
-- rule is this project's own.) Spans are in milliseconds.
use Rattle.std.specs.Prelude.{◌≡◌, ℕ, ◌+◌, ◌*◌, ◌/◌, ◌-◌, ◌==◌, nat_le, List, Option, Some, None, Result, Ok, if◌then◌else◌}
use Rattle.fbwire.specs.declared.fault.FeedbackFault.{FeedbackFault}
use Rattle.endpoint.specs.declared.told.Told.{Told}
use Rattle.endpoint.specs.declared.told.Told.TheVariants as heard
use Rattle.timing.specs.Lately.{greatest_at, seen_at, seen_none}
use Rattle.relays.specs.Capping.{capped}
use Rattle.relays.specs.LatencyReport.{TellsLatency}
use Rattle.relays.specs.declared.far_latency.FarLatency.{FarLatency}

-- nothing was told or sent
abbrev pub untold : FarLatency
untold = record { told = seen_none; gaps = seen_none }

abbrev pub told_with : (latency : Option ℕ) → (now : ℕ) → FarLatency → FarLatency
told_with None now f = f
told_with (Some latency) now f = record f { told = seen_at f.told latency now }

-- feedback for the session may tell it
abbrev pub HearsTold : (octets : List ℕ) → (now : ℕ) → (old new : FarLatency) → Type 0
HearsTold octets now old new = (latency : Option ℕ) × TellsLatency octets latency × (new ≡ told_with latency now old)

-- and whatever else the far side sends, or what is refused, does not
abbrev pub HearsLatency : Result Told FeedbackFault → (octets : List ℕ) → (now : ℕ) → (old new : FarLatency) → Type 0
HearsLatency (Ok (heard.Feedback shared)) octets now old new = HearsTold octets now old new
HearsLatency answer octets now old new = new ≡ old

-- A packet is sent behind the last one. Gaps below a tenth of a second are within what is left for other delays.
abbrev pub gap_seen : (last : Option ℕ) → (now : ℕ) → FarLatency → FarLatency
gap_seen None now f = f
gap_seen (Some last) now f = if nat_le 100 (now - last) then record f { gaps = seen_at f.gaps (now - last) now } else f

-- How long ago a packet may have been sent: for its latency a receiver waits behind the notice, which comes with the
-- next packet that does: a gap of the stream later, or a silence of a latency and a quarter. One packet may take half
-- a second more than another.
abbrev pub deadline_by : (latency gap : ℕ) → Option ℕ
deadline_by latency gap = if latency == 0 then None else Some (capped (capped (latency * 9) / 4 + capped (gap + 500)))

abbrev pub deadline_at : FarLatency → (now : ℕ) → Option ℕ
deadline_at f now = deadline_by (greatest_at f.told now) (greatest_at f.gaps now)

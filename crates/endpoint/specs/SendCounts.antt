-- What a sending endpoint counts for each of its calls.
use Rattle.std.specs.Prelude.{ℕ, Result, Ok, Err}
use Rattle.fbwire.specs.declared.fault.FeedbackFault.{FeedbackFault}
use Rattle.endpoint.specs.declared.told.Told.{Told}
use Rattle.endpoint.specs.declared.told.Told.TheVariants as told
use Rattle.endpoint.specs.declared.send_counts.SendCounts.{SendCounts}
use Rattle.endpoint.specs.Counts.{more}

-- a media packet with so many octets of payload
abbrev pub count_sent : (octets : ℕ) → SendCounts → SendCounts
count_sent octets c = record c { sent = more c.sent 1; octets = more c.octets octets }

-- a retransmission
abbrev pub count_repaired : SendCounts → SendCounts
count_repaired c = record c { retransmissions = more c.retransmissions 1 }

-- the answer to a datagram
abbrev pub count_told : Result Told FeedbackFault → SendCounts → SendCounts
count_told (Ok told.Media) c = record c { media = more c.media 1 }
count_told (Ok told.Reports) c = record c { reports = more c.reports 1 }
count_told (Ok (told.Feedback shared)) c =
    record c {
      nacks = more c.nacks shared.nacks;
      others = more c.others shared.others;
      numbers = more c.numbers shared.numbers;
      unknown = more c.unknown shared.unknown;
      exhausted = more c.exhausted shared.exhausted;
    }
count_told (Err fault) c = record c { refused = more c.refused 1 }

-- nothing was counted
abbrev pub no_counts : SendCounts
no_counts =
    record { sent = 0; octets = 0; retransmissions = 0; nacks = 0; others = 0; numbers = 0; unknown = 0; exhausted = 0; media = 0; reports = 0; refused = 0 }

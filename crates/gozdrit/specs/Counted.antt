-- What both ends counted, as C is told it.
use Rattle.std.specs.Prelude.{ℕ}
use Rattle.endpoint.specs.declared.kind_counts.KindCounts.{KindCounts}
use Rattle.endpoint.specs.declared.receive_counts.ReceiveCounts.{ReceiveCounts}
use Rattle.endpoint.specs.declared.resend_counts.ResendCounts.{ResendCounts}
use Rattle.endpoint.specs.declared.send_counts.SendCounts.{SendCounts}
use Rattle.gozdrit.specs.declared.counts.ReceiverCounts.{ReceiverCounts}
use Rattle.gozdrit.specs.declared.counts.ProbeCounts.{ProbeCounts}
use Rattle.gozdrit.specs.declared.counts.SenderCounts.{SenderCounts}

-- each in a struct of this size
abbrev pub receiver_counts : (size : ℕ) → ReceiveCounts → ReceiverCounts
receiver_counts size c =
    record {
      size = size;
      media = c.media;
      retransmissions = c.retransmissions;
      held_back = c.held_back;
      restarts = c.restarts;
      rtcp = c.control;
      duplicate = c.duplicate;
      late = c.late;
      too_far = c.far;
      refused = c.refused;
      overrun = c.overrun;
      abandoned = c.abandoned;
      played = c.played;
      gaps = c.gaps;
      nacks = c.asks;
      nacked = c.places_asked;
    }

abbrev pub probe_counts : (size : ℕ) → KindCounts → ProbeCounts
probe_counts size c =
    record {
      size = size;
      padding = c.padding;
      unrequested = c.unasked;
      duplicate = c.duplicate;
      late = c.late;
      refused = c.refused;
    }

abbrev pub sender_counts : (size : ℕ) → SendCounts → ResendCounts → SenderCounts
sender_counts size c passed =
    record {
      size = size;
      sent = c.sent;
      octets = c.octets;
      retransmissions = c.retransmissions;
      nacks = c.nacks;
      other_nacks = c.others;
      nacked = c.numbers;
      not_in_history = c.unknown;
      exhausted = c.exhausted;
      media = c.media;
      reports = c.reports;
      refused = c.refused;
      early = passed.early;
      expired = passed.expired;
    }

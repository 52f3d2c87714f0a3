-- The counts of a sending endpoint said a second way, over all its calls: each is the number of the answers that it counts, or
-- the sum of what they say. Lists have the newest first.
use Rattle.std.specs.Prelude.{◌≡◌, ℕ, List, [], ◌∷◌, length, Option, Some, Result, Ok, Err}
use Rattle.std.specs.List.{sum_by}
use Rattle.rtpwire.specs.declared.content.Content.{Content}
use Rattle.rtpwire.specs.declared.fault.TooShort.{TooShort}
use Rattle.fbwire.specs.declared.fault.FeedbackFault.{FeedbackFault}
use Rattle.sender.specs.declared.fault.SendFault.{SendFault}
use Rattle.endpoint.specs.declared.told.Told.{Told}
use Rattle.endpoint.specs.declared.told.Told.TheVariants.{Media, Reports, Feedback}
use Rattle.endpoint.specs.declared.send_counts.SendCounts.{SendCounts}
use Rattle.endpoint.specs.Counts.{count_in_64}
use Rattle.endpoint.specs.SendCounts.{count_told, no_counts}
use Rattle.endpoint.specs.Sending.{CountsSent, CountsRepaired}

-- a call of a sending endpoint, and what it answered
pub data Event : Type 0 where
  sent : Content → Result (Result (ℕ × ℕ) SendFault) TooShort → Event
  told : Result Told FeedbackFault → Event
  repaired : Result (Option (ℕ × ℕ)) TooShort → Event
  marked_last : Event

-- What each does to the counts: the clause of its call.
abbrev pub Steps : Event → (old new : SendCounts) → Type 0
Steps (sent content answer) old new = CountsSent content answer old new
Steps (told answer) old new = new ≡ count_told answer old
Steps (repaired answer) old new = CountsRepaired answer old new
Steps marked_last old new = new ≡ old

pub record Follows (Before : SendCounts → Type 0) (event : Event) (new : SendCounts) : Type 0 where
  pub old : SendCounts
  pub before : Before old
  pub steps : Steps event old new

-- The counts that these calls left, since the endpoint was made.
abbrev pub RunsOver : List Event → SendCounts → Type 0
RunsOver [] counts = counts ≡ no_counts
RunsOver (event ∷ before) counts = Follows (RunsOver before) event counts

abbrev pub sent_in : Event → ℕ
sent_in (sent content (Ok (Ok packet))) = 1
sent_in event = 0

abbrev pub octets_in : Event → ℕ
octets_in (sent content (Ok (Ok packet))) = length content.payload.items
octets_in event = 0

abbrev pub repairs_in : Event → ℕ
repairs_in (repaired (Ok (Some packet))) = 1
repairs_in event = 0

abbrev pub nacks_in : Event → ℕ
nacks_in (told (Ok (Feedback shared))) = shared.nacks
nacks_in event = 0

abbrev pub others_in : Event → ℕ
others_in (told (Ok (Feedback shared))) = shared.others
others_in event = 0

abbrev pub numbers_in : Event → ℕ
numbers_in (told (Ok (Feedback shared))) = shared.numbers
numbers_in event = 0

abbrev pub unknown_in : Event → ℕ
unknown_in (told (Ok (Feedback shared))) = shared.unknown
unknown_in event = 0

abbrev pub exhausted_in : Event → ℕ
exhausted_in (told (Ok (Feedback shared))) = shared.exhausted
exhausted_in event = 0

abbrev pub media_in : Event → ℕ
media_in (told (Ok Media)) = 1
media_in event = 0

abbrev pub reports_in : Event → ℕ
reports_in (told (Ok Reports)) = 1
reports_in event = 0

abbrev pub refused_in : Event → ℕ
refused_in (told (Err fault)) = 1
refused_in event = 0

abbrev pub tally : List Event → SendCounts
tally events =
    record {
      sent = count_in_64 (sum_by sent_in events);
      octets = count_in_64 (sum_by octets_in events);
      retransmissions = count_in_64 (sum_by repairs_in events);
      nacks = count_in_64 (sum_by nacks_in events);
      others = count_in_64 (sum_by others_in events);
      numbers = count_in_64 (sum_by numbers_in events);
      unknown = count_in_64 (sum_by unknown_in events);
      exhausted = count_in_64 (sum_by exhausted_in events);
      media = count_in_64 (sum_by media_in events);
      reports = count_in_64 (sum_by reports_in events);
      refused = count_in_64 (sum_by refused_in events);
    }

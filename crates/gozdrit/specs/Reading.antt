-- What the calls answer to C that read an end and leave it as it is.
use Rattle.std.specs.Prelude.{◌≡◌, ◌↔◌, ◌^◌, ◌<◌, ◌≤◌, ℕ, ℤ, false, Option, Some, None, IsSome}
use Rattle.stores.specs.Asking.{has_come}
use Rattle.stores.specs.Span.{front_of, highest_of}
use Rattle.receiver.specs.Asks.{CountsMissing}
use Rattle.receiver.specs.Receiver.{state_of}
use Rattle.receiver.specs.Streams.{source_of}
use Rattle.receiver.specs.Peeking.{is_ready}
use Rattle.receiver.specs.Waking.{IsQuiet}
use Rattle.gozdrit.specs.declared.answers.KnownTimeout.{KnownTimeout}
use Rattle.gozdrit.specs.declared.answers.KnownSequence.{KnownSequence}
use Rattle.gozdrit.specs.declared.answers.KnownSsrc.{KnownSsrc}
use Rattle.gozdrit.specs.declared.answers.KnownTimes.{KnownTimes}
use Rattle.gozdrit.specs.declared.counts.ReceiverCounts.{ReceiverCounts}
use Rattle.gozdrit.specs.declared.counts.ProbeCounts.{ProbeCounts}
use Rattle.gozdrit.specs.declared.counts.SenderCounts.{SenderCounts}
use Rattle.gozdrit.specs.declared.sizes.TheConstants.{PROBE_COUNTS, RECEIVE_COUNTS, SEND_COUNTS, TIMES}
use Rattle.timing.specs.NackRoom.{room_in}
use Rattle.gozdrit.specs.Codes.{ok, no_end, bad_size}
use Rattle.gozdrit.specs.Counted.{receiver_counts, probe_counts, sender_counts}
use Rattle.gozdrit.specs.Ends.{Receiver, Sender}
use Rattle.gozdrit.specs.Following.{core_of, patience_of}
use Rattle.gozdrit.specs.Told.{TellsSequence, TellsSsrc, TellsTimeout, TellsTimes}

-- A call that reads an end: where there is none, nothing is told.
pub record Reads {X Y : Type 0} (Tells : X → Y → Y → Type 0) (old : Option X) (told : Y) (code : ℤ) (new : Option X) (told' : Y) : Type 0 where
  pub none : old ≡ None → (code ≡ no_end) × (told' ≡ told)
  pub tells : (before : X) → old ≡ Some before → (code ≡ ok) × Tells before told told'
  pub same : new ≡ old

-- The same where what is told is a struct that may grow: one that is shorter than it is known is told nothing.
pub record ReadsSized {X Y : Type 0} (size_of : Y → ℕ) (known : ℕ) (Tells : X → Y → Y → Type 0) (old : Option X) (told : Y) (code : ℤ) (new : Option X) (told' : Y) : Type 0 where
  pub none : old ≡ None → (code ≡ no_end) × (told' ≡ told)
  pub short : IsSome old → size_of told < known → (code ≡ bad_size) × (told' ≡ told)
  pub tells : (before : X) → old ≡ Some before → known ≤ size_of told → (code ≡ ok) × Tells before told told'
  pub same : new ≡ old

-- The moment from which on something is to be done, or none, is told: any moment, where a NACK is to leave once more; and where none was earned,
-- from when on the next place is to be played or given up.
pub record TellsNext (r : Receiver) (old new : KnownTimeout) : Type 0 where
  pub moment : Option ℕ
  pub again : IsSome r.again → moment ≡ Some 0
  pub unearned : r.again ≡ None → room_in r.budget < 16 → (m : ℕ) → m < 2 ^ 64 → is_ready (patience_of r) m (front_of (core_of r).span) ≡ has_come moment m
  pub quiet : r.again ≡ None → 16 ≤ room_in r.budget → (m : ℕ) → m < 2 ^ 64 → IsQuiet (record (core_of r).config { patience = patience_of r }) (state_of (core_of r)) m ↔ (has_come moment m ≡ false)
  pub told : TellsTimeout moment old new

-- `gozdrit_missing`, `gozdrit_rtx_ssrc`, `gozdrit_next_sequence`, `gozdrit_highest_sequence`, `gozdrit_next_timeout`,
-- `gozdrit_receiver_times`, `gozdrit_receiver_counts`, `gozdrit_receiver_probe_counts` and `gozdrit_sender_counts`
abbrev pub AnswersMissing : Option Receiver → ℕ → ℤ → Option Receiver → ℕ → Type 0
AnswersMissing = Reads (λ r old new. CountsMissing (state_of (core_of r)) new)

abbrev pub AnswersSsrc : Option Receiver → KnownSsrc → ℤ → Option Receiver → KnownSsrc → Type 0
AnswersSsrc = Reads (λ r old new. TellsSsrc (source_of (core_of r).config (state_of (core_of r))) old new)

abbrev pub AnswersNext : Option Receiver → KnownSequence → ℤ → Option Receiver → KnownSequence → Type 0
AnswersNext = Reads (λ r old new. TellsSequence (core_of r).span.cursor old new)

abbrev pub AnswersHighest : Option Receiver → KnownSequence → ℤ → Option Receiver → KnownSequence → Type 0
AnswersHighest = Reads (λ r old new. TellsSequence (highest_of (core_of r).span) old new)

abbrev pub AnswersTimeout : Option Receiver → KnownTimeout → ℤ → Option Receiver → KnownTimeout → Type 0
AnswersTimeout = Reads TellsNext

abbrev pub AnswersReceiverTimes : Option Receiver → KnownTimes → ℤ → Option Receiver → KnownTimes → Type 0
AnswersReceiverTimes = ReadsSized (λ told. told.size) TIMES (λ r old new. TellsTimes (core_of r).config r.meter.path.trip.smoothed old new)

abbrev pub AnswersReceiverCounts : Option Receiver → ReceiverCounts → ℤ → Option Receiver → ReceiverCounts → Type 0
AnswersReceiverCounts = ReadsSized (λ told. told.size) RECEIVE_COUNTS (λ r old new. new ≡ receiver_counts old.size r.endpoint.endpoint.counts)

abbrev pub AnswersProbeCounts : Option Receiver → ProbeCounts → ℤ → Option Receiver → ProbeCounts → Type 0
AnswersProbeCounts = ReadsSized (λ told. told.size) PROBE_COUNTS (λ r old new. new ≡ probe_counts old.size r.endpoint.kinds)

abbrev pub AnswersSenderCounts : Option Sender → SenderCounts → ℤ → Option Sender → SenderCounts → Type 0
AnswersSenderCounts = ReadsSized (λ told. told.size) SEND_COUNTS (λ s old new. new ≡ sender_counts old.size s.endpoint.endpoint.counts s.endpoint.passed)

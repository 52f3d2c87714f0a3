-- The refusal numbers of this crate.
use Rattle.std.specs.Prelude.{ℕ}
use Rattle.fbwire.specs.declared.fault.FeedbackFault.{FeedbackFault}
use Rattle.fbwire.specs.declared.fault.FeedbackFault.TheVariants.{Short, Version, Padded, NotRtpfb, NotNack, Length, Empty, WrongMedia, WrongReporter}

abbrev pub feedback_number : FeedbackFault → ℕ
feedback_number Short = 11
feedback_number Version = 12
feedback_number Padded = 13
feedback_number NotRtpfb = 14
feedback_number NotNack = 15
feedback_number Length = 16
feedback_number Empty = 17
feedback_number WrongMedia = 18
feedback_number WrongReporter = 19

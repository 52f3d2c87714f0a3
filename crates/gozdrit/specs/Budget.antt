-- What a receiver of C's may ask for, where that is earned by what comes (FeedbackBudget).
use Rattle.std.specs.Prelude.{ℕ, Bool, true, nat_le, Option, Some, None}
use Rattle.timing.specs.FeedbackBudget.{room_of}
use Rattle.timing.specs.declared.feedback_budget.FeedbackBudget.{FeedbackBudget}

-- a NACK of so many octets was earned
abbrev pub is_earned : (octets : ℕ) → Option FeedbackBudget → Bool
is_earned octets None = true
is_earned octets (Some b) = nat_le octets (room_of b)

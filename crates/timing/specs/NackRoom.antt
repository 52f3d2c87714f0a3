-- How much feedback may leave at a moment, where that is earned by what comes (FeedbackBudget), and where it is not.
use Rattle.std.specs.Prelude.{ℕ, ◌-◌, ◌/◌, min, Option, Some, None}
use Rattle.timing.specs.FeedbackBudget.{earned_by, nothing_earned, room_of, spent_by}
use Rattle.timing.specs.declared.feedback_budget.FeedbackBudget.{FeedbackBudget}

-- how many octets the next NACK may have: the longest has 268
abbrev pub room_in : Option FeedbackBudget → ℕ
room_in None = 268
room_in (Some b) = min (room_of b) 268

-- a datagram of so many octets came
abbrev pub budget_with : (octets : ℕ) → Option FeedbackBudget → Option FeedbackBudget
budget_with octets None = None
budget_with octets (Some b) = Some (earned_by b octets)

-- a NACK of so many octets leaves
abbrev pub budget_without : (octets : ℕ) → Option FeedbackBudget → Option FeedbackBudget
budget_without octets None = None
budget_without octets (Some b) = Some (spent_by b octets)

-- nothing came so far
abbrev pub budget_anew : Option FeedbackBudget → Option FeedbackBudget
budget_anew None = None
budget_anew (Some b) = Some nothing_earned

-- How many places have room in a NACK of so many octets with a pair each (RFC 4585, section 6.2.1).
abbrev pub fewer_in : (room : ℕ) → ℕ
fewer_in room = (room - 12) / 4

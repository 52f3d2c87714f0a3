-- What a relay may ask of its far side, where what leaves as feedback is earned by what comes from there.
use Rattle.std.specs.Prelude.{ℕ, Bool, true, nat_le, Option, Some, None, if◌then◌else◌}
use Rattle.timing.specs.FeedbackBudget.{room_of, spent_by}
use Rattle.timing.specs.declared.feedback_budget.FeedbackBudget.{FeedbackBudget}

-- a NACK of so many octets leaves twice, if there is room for both
abbrev pub leaves_twice : (octets : ℕ) → Option FeedbackBudget → Bool
leaves_twice octets None = true
leaves_twice octets (Some b) = nat_le octets (room_of (spent_by b octets))

abbrev pub after_nack : (octets : ℕ) → Option FeedbackBudget → Option FeedbackBudget
after_nack octets None = None
after_nack octets (Some b) = Some (if leaves_twice octets (Some b) then spent_by (spent_by b octets) octets else spent_by b octets)

-- What may leave as feedback for an address, by what came from there. (The rule is this project's own; RFC 3550, section 6.2, has the share, and
-- RFC 9000, section 8.1, the thought.)
use Rattle.std.specs.Prelude.{ℕ, ◌+◌, ◌-◌, ◌/◌, ◌==◌, ◌<◌, ◌≤◌, max, min, List, [], ◌∷◌, if◌then◌else◌}
use Rattle.timing.specs.Capped.{capped}
use Rattle.timing.specs.declared.feedback_budget.FeedbackBudget.{FeedbackBudget}

abbrev pub nothing_earned : FeedbackBudget
nothing_earned = record { octets = 0; datagrams = 0 }

-- what a datagram of so many octets earns: a twentieth of them, or 24 where that is more, and never more than it has
abbrev pub worth_of : (octets : ℕ) → ℕ
worth_of octets = min (max (octets / 20) 24) octets

-- 268 octets are saved up at most
abbrev pub earned_by : FeedbackBudget → (octets : ℕ) → FeedbackBudget
earned_by b octets = record { octets = min (capped (b.octets + worth_of octets)) 268; datagrams = capped (b.datagrams + 1) }

-- no more datagrams leave than came
abbrev pub room_of : FeedbackBudget → ℕ
room_of b = if b.datagrams == 0 then 0 else b.octets

abbrev pub spent_by : FeedbackBudget → (octets : ℕ) → FeedbackBudget
spent_by b octets = record { octets = b.octets - octets; datagrams = b.datagrams - 1 }

-- ---- runs, for a law to say

-- a datagram of so many octets came from the address, or left for it as feedback
pub data Passed : Type 0 where
  came : (octets : ℕ) → Passed
  left : (octets : ℕ) → Passed

-- what may leave after these, the newest first
abbrev pub budget_after : FeedbackBudget → List Passed → FeedbackBudget
budget_after b [] = b
budget_after b (came octets ∷ before) = earned_by (budget_after b before) octets
budget_after b (left octets ∷ before) = spent_by (budget_after b before) octets

-- there was room for each that left
abbrev pub HadRoom : FeedbackBudget → List Passed → Type 0
HadRoom b [] = Unit {0}
HadRoom b (came octets ∷ before) = HadRoom b before
HadRoom b (left octets ∷ before) = (0 < octets) × (octets ≤ room_of (budget_after b before)) × HadRoom b before

abbrev pub octets_left : List Passed → ℕ
octets_left [] = 0
octets_left (came octets ∷ before) = octets_left before
octets_left (left octets ∷ before) = octets + octets_left before

abbrev pub octets_came : List Passed → ℕ
octets_came [] = 0
octets_came (came octets ∷ before) = octets + octets_came before
octets_came (left octets ∷ before) = octets_came before

-- what those that came earned
abbrev pub worth_came : List Passed → ℕ
worth_came [] = 0
worth_came (came octets ∷ before) = worth_of octets + worth_came before
worth_came (left octets ∷ before) = worth_came before

abbrev pub many_left : List Passed → ℕ
many_left [] = 0
many_left (came octets ∷ before) = many_left before
many_left (left octets ∷ before) = 1 + many_left before

abbrev pub many_came : List Passed → ℕ
many_came [] = 0
many_came (came octets ∷ before) = 1 + many_came before
many_came (left octets ∷ before) = many_came before

-- Feedback is earned.
use Rattle.std.proofs.Common.{◌≡◌, ◌<◌, ◌≤◌, ◌+◌, ◌==◌, ℕ, Bool, true, false, List, [], ◌∷◌, refl, arith, if◌then◌else◌}
use Rattle.std.proofs.lemmas.Bool.Decides.{nat_tests}
use Rattle.timing.specs.FeedbackBudget.{Passed, came, left, budget_after, HadRoom, many_came, many_left, nothing_earned, octets_came, octets_left, room_of, worth_came}
use Rattle.timing.specs.declared.feedback_budget.FeedbackBudget.{FeedbackBudget}

-- there is room for something where no fewer octets are saved up, and a datagram more came than left
has_room : (b : FeedbackBudget) (octets : ℕ) → 0 < octets → octets ≤ room_of b → (octets ≤ b.octets) × (0 < b.datagrams)
has_room b octets some within = by (b.datagrams == 0) refl within
  where
    by : (none : Bool) → b.datagrams == 0 ≡ none → octets ≤ (if none then 0 else b.octets) → (octets ≤ b.octets) × (0 < b.datagrams)
    by true is within = absurd (omega (arith, some, within))
    by false is within = (within, grind (arith, nat_tests, is))

-- What is saved up, and what left, were had before, or earned.
balance : (b : FeedbackBudget) (list : List Passed) → HadRoom b list → (budget_after b list).octets + octets_left list ≤ b.octets + worth_came list
balance b [] had = omega arith
balance b (came octets ∷ before) had = let was = balance b before had in omega (arith, was)
balance b (left octets ∷ before) had =
    let was = balance b before had.2 in
    let room = has_room (budget_after b before) octets had.0 had.1 in
    omega (arith, was, room.0)

pub in_a_span : (b : FeedbackBudget) (list : List Passed) → b.octets ≤ 268 → HadRoom b list → octets_left list ≤ worth_came list + 268
in_a_span b list small had = let is = balance b list had in omega (arith, is, small)

pub saved_up : (list : List Passed) → (budget_after nothing_earned list).octets ≤ 268
saved_up [] = omega arith
saved_up (came octets ∷ before) = omega arith
saved_up (left octets ∷ before) = let was = saved_up before in omega (arith, was)

no_more_than_came : (list : List Passed) → worth_came list ≤ octets_came list
no_more_than_came [] = omega arith
no_more_than_came (came octets ∷ before) = let was = no_more_than_came before in omega (arith, was)
no_more_than_came (left octets ∷ before) = no_more_than_came before

pub in_all : (list : List Passed) → HadRoom nothing_earned list → octets_left list ≤ octets_came list
in_all list had = let is = balance nothing_earned list had in let few = no_more_than_came list in omega (arith, is, few)

datagrams : (b : FeedbackBudget) (list : List Passed) → HadRoom b list → (budget_after b list).datagrams + many_left list ≤ b.datagrams + many_came list
datagrams b [] had = omega arith
datagrams b (came octets ∷ before) had = let was = datagrams b before had in omega (arith, was)
datagrams b (left octets ∷ before) had =
    let was = datagrams b before had.2 in
    let room = has_room (budget_after b before) octets had.0 had.1 in
    omega (arith, was, room.1)

pub many : (list : List Passed) → HadRoom nothing_earned list → many_left list ≤ many_came list
many list had = let is = datagrams nothing_earned list had in omega (arith, is)

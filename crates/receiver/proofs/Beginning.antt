-- A receiver that began at the number of the first packet, and one that the packet starts.
use Rattle.std.proofs.Common.{◌≡◌, ◌≢◌, ℕ, ◌+◌, ◌^◌, ◌<◌, ◌≤◌, Option, Some, None, IsSomeAnd, Result, Ok, Err, refl, sym, ap, subst, ◌∙◌, inl, inr, arith}
use Rattle.std.specs.Prelude.{IsSome}
use Rattle.std.proofs.lemmas.Bool.{cases_eq, cases_lt}
use Rattle.places.specs.Place.{IsNear, IsFar, IsPastEnd}
use Rattle.rtpwire.specs.declared.content.Content.{Content}
use Rattle.stores.specs.declared.slot.PutFault.TheVariants.{Late, Duplicate}
use Rattle.receiver.specs.declared.answer.Taken.{Taken}
use Rattle.receiver.specs.declared.fault.ReceiveFault.{ReceiveFault}
use Rattle.receiver.specs.declared.fault.ReceiveFault.TheVariants as refused
use Rattle.receiver.specs.declared.stream.Stream.TheVariants.{Media}
use Rattle.receiver.specs.Window.{ReceiverState, Begins, Starts, Takes, AnswersPlace, StartsAt, cursor_after}
use Rattle.receiver.specs.Heard.{TakesNumber}

-- the place after the highest is near, and has its own number
near_first : (highest seq first : ℕ) → highest + 1 ≡ first → first ≡ 65536 + seq → seq < 2 ^ 16 → IsNear highest seq first
near_first highest seq first next at fits = record { same_number = omega arith; not_above = omega arith; not_below = omega arith }

module _ (room first now : ℕ) (content : Content) (begun : ReceiverState) (some : 0 < room) (begins : Begins first begun) where
  -- there is room for the first place
  stays : (place : ℕ) → place ≡ first → cursor_after room begun.cursor place ≡ first
  stays place at = let c = begins.cursor in omega arith

  starts : (place : ℕ) (new : ReceiverState) → place ≡ first → Takes room begun place content now new → Starts first content new
  starts place new at takes =
      let cursor : new.cursor ≡ first = takes.cursor ∙ stays place at in
      let highest : new.highest ≡ first = let h = takes.highest in let b = begins.highest in omega arith in
      record {
        cursor = cursor;
        highest = highest;
        held = ap new.held (sym at) ∙ takes.held;
        held_else = λ k other.
            elim (cases_lt k new.cursor) [
              | inl under ↦ takes.held_dropped k under
              | inr over ↦ takes.held_else k over (λ e. other (e ∙ at)) ∙ begins.held k
            ];
        missing = λ k.
            elim (cases_eq k place) [
              | inl here ↦ ap new.missing here ∙ takes.missing
              | inr other ↦ elim (cases_lt k new.cursor) [
                | inl under ↦ takes.missing_dropped k under
                | inr over ↦ takes.missing_above k over (above k other over cursor) ∙ begins.missing k
              ]
            ];
        learnt = takes.learnt ∙ begins.learnt;
      }
    where
      above : (k : ℕ) → k ≢ place → new.cursor ≤ k → new.cursor ≡ first → place < k
      above k other over cursor = elim (cases_lt place k) [ inl far ↦ far | inr near ↦ absurd (other (omega arith)) ]

  starts_some : (place : ℕ) (new : Option ReceiverState) → place ≡ first → IsSomeAnd new (Takes room begun place content now) → IsSomeAnd new (Starts first content)
  starts_some place None at none = absurd none
  starts_some place (Some w) at takes = starts place w at takes

  answered : (place : ℕ) (answer : Result Taken ReceiveFault) (new : Option ReceiverState) → place ≡ first → AnswersPlace room begun place content now answer new → StartsAt first content answer new
  answered place (Ok taken) new at (place_is, above, free, overrun, takes) =
      let stays_there = stays place at in let cursor = begins.cursor in (place_is ∙ at, overrun ∙ omega arith, starts_some place new at takes)
  answered place (Err (refused.Put Late)) new at (under, same) = let cursor = begins.cursor in absurd (omega arith)
  answered place (Err (refused.Put Duplicate)) new at (above, held, same) = let none : IsSome {T = Content} None = subst (λ (o : Option Content). IsSome o) (begins.held place) held in absurd cc
  answered place (Err (refused.Rtp fault)) new at never = absurd never
  answered place (Err refused.UnknownSource) new at never = absurd never
  answered place (Err refused.UnknownType) new at never = absurd never
  answered place (Err (refused.Content fault)) new at never = absurd never
  answered place (Err refused.NotStarted) new at never = absurd never
  answered place (Err (refused.Place fault)) new at never = absurd never
  answered place (Err refused.Unasked) new at never = absurd never

-- the packet with the number at which the receiver began starts it
pub started_so : ((highest seq p q : ℕ) → IsNear highest seq p → IsNear highest seq q → p ≡ q) → ((highest seq p : ℕ) → IsNear highest seq p → IsFar highest seq → ⊥) →
    ((highest seq p : ℕ) → p < 2 ^ 48 → IsNear highest seq p → IsPastEnd highest seq → ⊥) →
    (room seq now : ℕ) (content : Content) (begun : ReceiverState) (answer : Result Taken ReceiveFault) (new : Option ReceiverState) → 0 < room → seq < 2 ^ 16 → Begins (65536 + seq) begun →
    TakesNumber room Media (Some begun) seq content now answer new → TakesNumber room Media None seq content now answer new
started_so one not_far not_past room seq now content begun answer new some fits begins (inl (far, is, same)) =
    absurd (not_far begun.highest seq (65536 + seq) (near_first begun.highest seq (65536 + seq) begins.highest refl fits) far)
started_so one not_far not_past room seq now content begun answer new some fits begins (inr (inl (past, is, same))) =
    absurd (not_past begun.highest seq (65536 + seq) (omega arith) (near_first begun.highest seq (65536 + seq) begins.highest refl fits) past)
started_so one not_far not_past room seq now content begun answer new some fits begins (inr (inr (place, near, within, step))) =
    answered room (65536 + seq) now content begun some begins place answer new
    (one begun.highest seq place (65536 + seq) near (near_first begun.highest seq (65536 + seq) begins.highest refl fits)) step

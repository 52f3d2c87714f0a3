use Rattle.std.proofs.Common.{◌≡◌, ◌≢◌, ◌∙◌, length, slice_get, Some, rules, ap, subst}
use Rattle.stores.specs.declared.due.foreseen.Soonest.{Soonest}
use Rattle.stores.specs.Asking.{is_due}
use Rattle.stores.specs.Foreseen.{Tells, IsSoonest}
use Rattle.stores.specs.Lent.{slot_of}
use Rattle.stores.proofs.Soonest.{soonest_change}
use Rattle.stores.proofs.due.keeping.with_change.Goals as goal
use Rattle.stores.proofs.due.keeping.with_change.Goals.{in-Some+else-soonest-index, in_default}

pub returns : goal.returns
returns c = λ old long same told answer e.
    let slots = c.args.slots.now.items in
    let index = c.args.index in
    let kept = c.in_ok-answer.answer in
    let rule = kept.rule in
    let was : IsSoonest rule kept.soonest old (length old) = told kept (search rules) in
    let got : slice_get slots index ≡ Some (slot_of c.in_ok-get.field-0) = search rules in
    let apart : (s : Soonest) → kept.soonest ≡ Some s → s.index ≢ index = λ s named. elim c.match-answer.branch [
      | in-Some+else-soonest-index w ↦ search rules
      | in_default w ↦ search rules
    ] in
    let is = soonest_change rule kept.soonest c.or.result c.due_from-moment.result old slots index c.or.ensures.sooner c.or.ensures.serves
    (λ now fits. ap (is_due now rule.delay rule.retry rule.asks) got ∙ c.due_from-moment.ensures now fits) apart long same was in
    subst (λ a. Tells a slots) (cc) is

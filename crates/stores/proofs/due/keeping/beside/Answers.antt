use Rattle.std.proofs.Common.{◌≡◌, ◌∙◌, length, slice_get, Some, rules, ap, subst}
use Rattle.stores.specs.declared.due.foreseen.Soonest.{Soonest}
use Rattle.stores.specs.Asking.{is_due, has_come}
use Rattle.stores.specs.Foreseen.{Tells, IsSoonest}
use Rattle.stores.specs.Lent.{slot_of}
use Rattle.stores.proofs.Soonest.{soonest_beside}
use Rattle.stores.proofs.due.keeping.beside.Goals as goal

pub returns : goal.returns
returns c = λ answer e.
    let slots = c.args.slots.now.items in
    let old = c.in_ok-answer.answer in
    let rule = old.rule in
    let soonest = c.in-Some.soonest in
    let next = c.first_in_run-next.result in
    let moment = c.in_ok-moment.moment in
    let other : Soonest = record { moment = moment; index = next } in
    let was : IsSoonest rule old.soonest slots (length slots) = c.requires.told old (search rules) in
    let named : IsSoonest rule (Some soonest) slots (length slots) = subst (λ s. IsSoonest rule s slots (length slots)) c.in-Some.is was in
    let same : moment ≡ soonest.moment = search rules in
    let got : slice_get slots next ≡ Some (slot_of c.in_ok-get.field-0) = search rules in
    let from : c.due_from.result ≡ Some moment = search rules in
    let is = soonest_beside rule soonest other slots same
    (λ now fits. ap (is_due now rule.delay rule.retry rule.asks) got ∙ c.due_from.ensures now fits ∙ ap (λ m. has_come m now) from) named in
    subst (λ a. Tells a slots) (cc) is

use Rattle.std.proofs.Common.{length, drop, Some, rules, subst, refl, arith}
use Rattle.stores.specs.declared.due.foreseen.Soonest.{Soonest}
use Rattle.stores.specs.Foreseen.{Tells, IsSoonest}
use Rattle.stores.proofs.Soonest.{soonest_drop_some}
use Rattle.stores.proofs.due.keeping.without_front.Goals as goal

pub returns : goal.returns
returns c = λ slots told answer e.
    let old = c.in_ok-answer.answer in
    let soonest = c.in-Some.soonest in
    let left : Soonest = record { moment = soonest.moment; index = c.in_ok-index.index } in
    let was : IsSoonest old.rule old.soonest slots (length slots) = told old (search rules) in
    let named : IsSoonest old.rule (Some soonest) slots (length slots) = subst (λ s. IsSoonest old.rule s slots (length slots)) c.in-Some.is was in
    let at = c.in_ok-index.ensures in
    let is = soonest_drop_some old.rule slots c.args.count soonest left refl (omega arith) named in
    subst (λ a. Tells a (drop c.args.count slots)) (cc) is

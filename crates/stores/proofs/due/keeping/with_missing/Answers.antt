use Rattle.std.proofs.Common.{◌∙◌, ◌++◌, length, replicate, rules, ap, sym, subst, arith}
use Rattle.stores.specs.Foreseen.{Tells, IsSoonest}
use Rattle.stores.specs.Put.{noticed_at}
use Rattle.stores.proofs.Soonest.{soonest_adds}
use Rattle.stores.proofs.due.keeping.with_missing.Goals as goal

pub returns : goal.returns
returns c = λ slots long told answer e.
    let old = c.in_ok-answer.answer in
    let was : IsSoonest old.rule old.soonest slots (length slots) = told old (search rules) in
    let is = soonest_adds old.rule old.soonest c.or.result c.due_from.result slots c.args.count (noticed_at c.args.now) (omega arith) c.or.ensures.sooner
    (λ due serves here. c.or.ensures.serves due serves (λ now fits. ap (due now) (sym long) ∙ here now fits)) c.due_from.ensures was in
    subst (λ a. Tells a (slots ++ replicate c.args.count (noticed_at c.args.now))) (cc) is

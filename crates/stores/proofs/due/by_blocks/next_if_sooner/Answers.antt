use Rattle.std.proofs.Common.{rules, ap, sym, ◌∙◌}
use Rattle.std.specs.Prelude.{IsTrue}
use Rattle.stores.specs.Asking.{has_come}
use Rattle.stores.proofs.Soonest.{soonest_pass}
use Rattle.stores.proofs.due.by_blocks.next_if_sooner.Goals as goal

pub returns-then-is_no_sooner : goal.returns-then-is_no_sooner
returns-then-is_no_sooner c =
    let later : IsTrue c.is_no_sooner.result = search rules in
    soonest_pass c.args.rule c.args.before c.args.slots.now.items c.args.ones.position c.args.end
    (λ p now l u fits due. ap (λ m. has_come m now) (sym c.soonest_moment.ensures) ∙ c.is_no_sooner.ensures.later later now (c.requires.none p l u now fits due))
    c.requires.before

pub next_within-requires-clause-sooner : goal.next_within-requires-clause-sooner
next_within-requires-clause-sooner c = λ now come. c.is_no_sooner.ensures.sooner c.if-is_no_sooner.false now (ap (λ m. has_come m now) c.soonest_moment.ensures ∙ come)

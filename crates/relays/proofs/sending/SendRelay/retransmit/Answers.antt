use Rattle.std.proofs.Common.{rules, subst}
use Rattle.sender.specs.History.{NoneMarked}
use Rattle.sender.specs.Passing.{IsNext}
use Rattle.sender.specs.Sender.{state_of}
use Rattle.endpoint.specs.declared.resend_rule.ResendRule.{ResendRule}
use Rattle.endpoint.specs.Passing.{PassesWhatMayNot}
use Rattle.relays.specs.SendRelay.{SendSide, rule_at}
use Rattle.relays.proofs.Marked.{next_is_marked, passes_all}
use Rattle.relays.proofs.sending.SendRelay.retransmit.Goals as goal

pub returns-in-Ok-None-clause-some : goal.returns-in-Ok-None-clause-some
returns-in-Ok-None-clause-some g c =
    let e = c.self.inside.endpoint in
    let new = c.retransmit_by.new.self in
    let next : IsNext (state_of c.self.inside.endpoint.endpoint.core) c.in-Some.field-0 = search rules in
    let rule_is = c.rule-rule.ensures in
    let all = passes_all c.rule-rule.result e.moments e.endpoint.core.config.session c.args.now (state_of e.endpoint.core) e.passed c.args.out.now c.in-Ok-None.field-0 c.retransmit_by.new.out (state_of new.endpoint.core) new.passed c.in-Ok-None.field-0-is c.in-Ok-None.ensures.retransmits in λ not. (
      not,
      search rules,
      record {
        opened = search rules;
        is_marked = subst (λ (s : SendSide). NoneMarked (state_of s.core) → ⊥) c.self.view_is (next_is_marked (state_of e.endpoint.core) c.in-Some.field-0 next);
        passes = subst (λ (s : SendSide). PassesWhatMayNot (rule_at c.args.self.now c.args.now) s.moments c.args.now (state_of s.core) s.passed (state_of new.endpoint.core) new.passed) c.self.view_is
            (subst (λ (rule : ResendRule). PassesWhatMayNot rule e.moments c.args.now (state_of e.endpoint.core) e.passed (state_of new.endpoint.core) new.passed) rule_is all.0);
        none_left = all.1;
        config = search rules;
        rest = search rules;
      },
    )

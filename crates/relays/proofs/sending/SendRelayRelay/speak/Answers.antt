use Rattle.std.proofs.Common.{rules, ◌≡◌, ◌∙◌, false, refl, sym, subst}
use Rattle.sender.specs.Sender.{state_of}
use Rattle.sender.specs.Tail.{MarksLast}
use Rattle.relays.specs.declared.relay.Turn.{Turn}
use Rattle.relays.specs.SendRelay.{NotCrowded, SendSide, SpeaksAs}
use Rattle.relays.proofs.sending.SendRelayRelay.speak.Goals as goal

pub returns-in-Some-clause-speaks : goal.returns-in-Some-clause-speaks
returns-in-Some-clause-speaks g c =
    let turn = c.in-Some.turn in
    let none : c.leave_out-left_out.result ≡ 0 = search rules in
    let same : c.leave_out-left_out.new.self ≡ c.args.self.now = c.leave_out-left_out.ensures.same none in
    let not = subst (λ (s : SendSide). NotCrowded s c.args.now) (sym same) (c.leave_out-left_out.ensures.none none) in
    subst (λ (s : SendSide). SpeaksAs s c.args.now turn.note turn.leaves c.retransmit.new.out c.retransmit.new.self) same (c.in-Some.ensures.some not)

pub returns-clause-speaks : goal.returns-clause-speaks
returns-clause-speaks g c =
    let none : c.leave_out-left_out.result ≡ 0 = search rules in
    let r = c.self.inside in
    let new : SendSide =
    record {
      core = c.mark_last-marked.new.self.endpoint.core;
      counts = c.mark_last-marked.new.self.endpoint.counts;
      rule = c.mark_last-marked.new.self.rule;
      moments = c.mark_last-marked.new.self.moments;
      passed = c.mark_last-marked.new.self.passed;
      meter = r.meter;
      far = r.far;
      stream = r.stream;
      pace = r.pace;
      backlog = c.mark.new.self;
      tail = false;
      latency = r.latency;
      bounds = r.bounds;
    } in
    let kept : c.retransmit.new.self ≡ c.args.self.now = c.in_default.ensures.same refl ∙ c.leave_out-left_out.ensures.same none in
    let viewed = c.self.view_is ∙ kept in
    subst (λ (turn : Turn). SpeaksAs c.args.self.now c.args.now turn.note turn.leaves c.retransmit.new.out new) (sym c.silent-2.ensures) (
      c.leave_out-left_out.ensures.none none,
      search rules,
      search rules,
      subst (λ (s : SendSide). MarksLast s.core.config.repeats (state_of s.core) c.mark_last-marked.result (state_of c.mark_last-marked.new.self.endpoint.core)) viewed c.mark_last-marked.ensures.marks,
      search rules,
    )

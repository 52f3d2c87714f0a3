use Rattle.std.proofs.Common.{rules, sym, subst}
use Rattle.relays.specs.declared.relay.Turn.{Turn}
use Rattle.relays.specs.SendRelay.{HearsFar, SendSide}
use Rattle.relays.proofs.sending.SendRelay.hear_far.Goals as goal

pub returns-clause-hears : goal.returns-clause-hears
returns-clause-hears g c =
    let e = c.on_datagram-answer.new.self in
    let r = c.self.inside in
    let new : SendSide =
    record {
      core = e.endpoint.core;
      counts = e.endpoint.counts;
      rule = e.rule;
      moments = e.moments;
      passed = e.passed;
      meter = c.hear.new.self;
      far = r.far;
      stream = r.stream;
      pace = c.fall.new.self;
      backlog = c.see.new.self;
      tail = r.tail;
      latency = c.hear-3.new.self;
      bounds = r.bounds;
    } in
    subst (λ (turn : Turn). HearsFar c.args.self.now c.args.from c.args.octets.now c.args.now turn.note turn.leaves new) (sym c.silent-2.ensures) (
      search rules,
      record {
        first = c.next_marked.result;
        is_next = search rules;
        measures = search rules;
        tells = search rules;
        tells_latency = search rules;
        rest = search rules;
      },
    )

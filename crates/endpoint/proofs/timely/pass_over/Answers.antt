use Rattle.std.proofs.Common.{rules, ◌≡◌, ◌+◌, ap, sym, subst, ◌∙◌, arith}
use Rattle.sender.specs.Sender.{state_of}
use Rattle.endpoint.specs.Passing.{PassesBelow}
use Rattle.endpoint.specs.Resending.{verdict}
use Rattle.endpoint.proofs.Passes.{passes_none, passes_one}
use Rattle.endpoint.proofs.timely.pass_over.Goals as goal

pub loop-place-init : goal.loop-place-init
loop-place-init g c =
    record {
      passes = passes_none c.args.rule c.args.moments.now c.args.now (state_of c.args.endpoint.now.core) c.args.passed.now (search rules) (search rules);
      within = omega arith;
      config = search rules;
      capacity = search rules;
      counts = search rules;
    }

pub loop-place-preserved : goal.loop-place-preserved
loop-place-preserved g c =
    let before = c.loop-place.invariant in
    let place : c.value-from.result ≡ c.in-Some.place = c.value-from.ensures.value in
    let is_place = c.value-from.ensures.is_place in
    let old = state_of c.args.endpoint.now.core in
    let new = state_of c.pass_repair.new.self.core in
    let more : PassesBelow c.args.rule c.args.moments.now c.args.now (c.in-Some.place + 1) old c.args.passed.now new c.count.new.self =
    passes_one c.args.rule c.args.moments.now c.args.now c.loop-place.from old c.args.passed.now (state_of c.loop-place.endpoint.core) c.loop-place.passed before.passes c.in-Some.place c.in-Some.ensures
    c.verdict-verdict.result c.pass_repair.result new c.count.new.self (c.verdict-verdict.ensures ∙ ap (λ t. verdict c.args.rule t c.args.now) c.times.ensures) (search rules) c.pass_repair.ensures.passes c.count.ensures in
    record {
      passes = subst (λ n. PassesBelow c.args.rule c.args.moments.now c.args.now (n + 1) old c.args.passed.now new c.count.new.self) (sym place) more;
      within = omega (arith, place, is_place);
      config = c.pass_repair.ensures.stays.config ∙ before.config;
      capacity = c.pass_repair.ensures.stays.capacity ∙ before.capacity;
      counts = c.pass_repair.ensures.counts ∙ before.counts;
    }

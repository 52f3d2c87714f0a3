use Rattle.std.proofs.Common.{◌≡◌, sym, subst}
use Rattle.sender.specs.Sender.{state_of}
use Rattle.endpoint.specs.declared.resend_rule.ResendRule.{ResendRule}
use Rattle.endpoint.specs.Moments.{times_at}
use Rattle.endpoint.specs.Passing.{PassesWhatMayNot}
use Rattle.endpoint.specs.Resending.{always}
use Rattle.endpoint.proofs.InTime.{always_goes}
use Rattle.endpoint.proofs.Passes.{passes_none}
use Rattle.endpoint.proofs.timely.pass_by.Goals as goal

pub returns-then-is_always-clause-passes : goal.returns-then-is_always-clause-passes
returns-then-is_always-clause-passes g c =
    let cells = c.args.moments.now in
    let now = c.args.now in
    let state = state_of c.args.endpoint.now.core in
    let passed = c.args.passed.now in
    let is : c.args.rule ≡ always = c.is_always.ensures.0 c.if-is_always.true in
    subst (λ (r : ResendRule). PassesWhatMayNot r cells now state passed state passed) (sym is)
    (record { from = 0; passes = passes_none always cells now state passed c.have_64_bits.ensures.0 c.have_64_bits.ensures.1; may = λ q next. always_goes (times_at cells q) now })

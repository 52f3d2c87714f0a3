use Rattle.std.proofs.Common.{◌++◌, ◌∙◌, ap}
use Rattle.lines.specs.ShowText.{pair_text}
use Rattle.lines.proofs.LineLemmas.{spaced_around}
use Rattle.lines.proofs.SinkLemmas.{fails_first, stopped_in_next}
use Rattle.lines.proofs.nack_text.push_pairs.Goals as goal

pub returns-in_err-push : goal.returns-in_err-push
returns-in_err-push g c =
    let parts = c.loop-pair.invariant.all ∙ ap (λ left. c.loop-pair.yielded ++ left) c.in-Some.ensures.steps in
    let stopped = rw c.spaced_pair.ensures at c.in_err-push.ensures in
    fails_first _ _ _ _ _ _ c.from_residual.ensures.0 (spaced_around pair_text _ _ _ c.in-Some.pair parts) (stopped_in_next _ _ _ _ _ c.loop-pair.invariant.pushed stopped)

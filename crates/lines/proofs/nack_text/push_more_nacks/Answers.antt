use Rattle.std.proofs.Common.{◌++◌, ◌∷◌, [], ◌∙◌, ap, sym, subst, append_assoc}
use Rattle.std.specs.Io.KnownBytes.{Appends}
use Rattle.lines.specs.ShowText.{nack_text}
use Rattle.lines.proofs.LineLemmas.{spaced_around, spaced_more}
use Rattle.lines.proofs.SinkLemmas.{both_appended, fails_first, stopped_in_first, stopped_in_next}
use Rattle.lines.proofs.nack_text.push_more_nacks.Goals as goal

pub returns-in_err-push : goal.returns-in_err-push
returns-in_err-push g c =
    let parts = c.loop-nack.invariant.all ∙ ap (λ left. c.loop-nack.yielded ++ left) c.in-Some.ensures.steps in
    fails_first _ _ _ _ _ _ c.from_residual.ensures.0 (spaced_around nack_text _ _ _ c.in-Some.nack parts)
    (stopped_in_next _ _ _ _ _ c.loop-nack.invariant.pushed (stopped_in_first _ _ _ _ c.in_err-push.ensures))

pub returns-in_err-push_nack : goal.returns-in_err-push_nack
returns-in_err-push_nack g c =
    let parts = c.loop-nack.invariant.all ∙ ap (λ left. c.loop-nack.yielded ++ left) c.in-Some.ensures.steps in
    fails_first _ _ _ _ _ _ c.from_residual-in_err-push_nack.ensures.0 (spaced_around nack_text _ _ _ c.in-Some.nack parts)
    (stopped_in_next _ _ _ _ _ c.loop-nack.invariant.pushed (stopped_in_next _ _ _ _ _ c.in_ok-push.ensures c.in_err-push_nack.ensures))

pub loop-nack-preserved : goal.loop-nack-preserved
loop-nack-preserved g c =
    let y = c.loop-nack.yielded in
    let nack = c.in-Some.nack in
    record {
      all = c.loop-nack.invariant.all ∙ ap (λ left. y ++ left) c.in-Some.ensures.steps ∙ sym (append_assoc y (nack ∷ []) c.next.new.self);
      pushed = subst (Appends (g.S.Sink.contents c.args.sink.now) (g.S.Sink.contents c.push_nack.new.sink)) (sym (spaced_more nack_text y nack))
          (both_appended _ _ _ _ _ c.loop-nack.invariant.pushed (both_appended _ _ _ _ _ c.in_ok-push.ensures c.in_ok-push_nack.ensures));
    }

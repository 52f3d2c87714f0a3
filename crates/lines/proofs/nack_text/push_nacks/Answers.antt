use Rattle.std.proofs.Common.{ap}
use Rattle.lines.specs.ShowText.{nacks_line}
use Rattle.lines.proofs.SinkLemmas.{both_appended, ends_with, fails_first, stopped_in_first, stopped_in_next}
use Rattle.lines.proofs.nack_text.push_nacks.Goals as goal
use Rattle.lines.proofs.nack_text.push_nacks.Goals.{in-Some+in_ok-push_nack+in_ok-push_more_nacks, in_default}

pub returns-in_err-push_nack : goal.returns-in_err-push_nack
returns-in_err-push_nack g c =
    fails_first _ _ _ _ _ _ c.from_residual.ensures.0 (ap nacks_line c.in-Some.ensures.steps) (stopped_in_first _ _ _ _ c.in_err-push_nack.ensures)

pub returns-in_err-push_more_nacks : goal.returns-in_err-push_more_nacks
returns-in_err-push_more_nacks g c =
    fails_first _ _ _ _ _ _ c.from_residual-in_err-push_more_nacks.ensures.0 (ap nacks_line c.in-Some.ensures.steps)
    (stopped_in_next _ _ _ _ _ c.in_ok-push_nack.ensures c.in_err-push_more_nacks.ensures)

pub returns : goal.returns
returns g c = elim c.match-next.branch [
  | in-Some+in_ok-push_nack+in_ok-push_more_nacks w ↦
      ends_with _ _ _ _ _ _ _ (ap nacks_line w.in-Some.ensures.steps)
      (both_appended _ _ _ _ _ w.in_ok-push_nack.ensures w.in_ok-push_more_nacks.ensures) (rw w.sink-is at c.push.ensures)
  | in_default w ↦ rw w.in_default.ensures.steps.0 (rw w.sink-is at c.push.ensures)
]

use Rattle.std.proofs.Common.{sym, ◌∙◌}
use Rattle.lines.specs.ShowText.{feedback, no_feedback, media, no_media}
use Rattle.lines.proofs.show_text.push_datagram.Goals as goal

pub returns-in-Ok : goal.returns-in-Ok
returns-in-Ok g c =
    let is = c.is_feedback.ensures.0 c.if-is_feedback.true in
    (_, feedback c.in-Ok.compound is c.in-Ok.ensures.spelled, rw c.nacks.ensures.value at c.push_nacks.ensures)

pub returns-in-Err : goal.returns-in-Err
returns-in-Err g c =
    let is = c.is_feedback.ensures.0 c.if-is_feedback.true in
    (_, no_feedback c.in-Err.fault is c.in-Err.ensures.fault, rw c.number.ensures at c.push_refused.ensures)

pub returns-in-Ok-read : goal.returns-in-Ok-read
returns-in-Ok-read g c =
    let (line, shows, pushed) = c.push_view.ensures in
    (line, media c.in-Ok-read.view line (λ is. cc (sym (c.is_feedback.ensures.1 is) ∙ c.if-is_feedback.false)) c.in-Ok-read.ensures.spelled shows, pushed)

pub returns-in-Err-read : goal.returns-in-Err-read
returns-in-Err-read g c =
    (_, no_media c.in-Err-read.fault (λ is. cc (sym (c.is_feedback.ensures.1 is) ∙ c.if-is_feedback.false)) c.in-Err-read.ensures.fault, rw c.number-in-Err-read.ensures at c.push_refused-in-Err-read.ensures)

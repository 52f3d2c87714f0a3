use Rattle.rtxtool.proofs.PrintLemmas.{lines_held, lines_stopped}
use Rattle.rtxtool.proofs.program.show.Goals as goal

pub returns-in-Ok-Err-clause-err : goal.returns-in-Ok-Err-clause-err
returns-in-Ok-Err-clause-err g c =
    let stopped = rw c.in-Ok-Err.is-1 at c.show_trace-outcome.ensures.stopped in
    lines_stopped c.in-Ok-Err.fault _ _ _ _ _ stopped (rw c.in-Ok-Err.is-0 at c.bring_out.ensures.ok) c.bring_out.ensures.came

pub returns-in-Err-default-clause-err : goal.returns-in-Err-default-clause-err
returns-in-Err-default-clause-err g c =
    let put = c.show_trace-outcome.ensures in
    lines_held c.show_trace-outcome.result _ _ _ _ _ put.shown put.stopped c.bring_out.ensures.came

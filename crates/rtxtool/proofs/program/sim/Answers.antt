use Rattle.rtxtool.proofs.PrintLemmas.{log_held}
use Rattle.rtxtool.proofs.program.sim.Goals as goal

pub returns-in-Err-default-clause-err : goal.returns-in-Err-default-clause-err
returns-in-Err-default-clause-err g c =
    let put = c.sim_text-outcome.ensures in
    let law = c.scripts_are_read.ensures in
    log_held law.config law.events c.sim_text-outcome.result _ _ _ _ _ put.whole_log put.a_beginning c.bring_out.ensures.came

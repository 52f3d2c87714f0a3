use Rattle.rtxtool.proofs.PrintLemmas.{front_held}
use Rattle.rtxtool.proofs.program.print_tally.Goals as goal

pub returns-in_default-2-clause-err : goal.returns-in_default-2-clause-err
returns-in_default-2-clause-err g c = front_held c.push_tally-pushed.result _ _ _ _ c.push_tally-pushed.ensures c.bring_out.ensures.came

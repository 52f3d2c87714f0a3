use Rattle.std.proofs.Common.{rules}
use Rattle.rtxtool.proofs.CommandLemmas.{misses, taken_lacks}
use Rattle.rtxtool.proofs.command_line.choose.Goals as goal

pub returns-clause-err : goal.returns-clause-err
returns-clause-err g c = misses _ _ c.in-Err.error c.in_ok-command.ensures (search rules) c.in-Err.ensures.kinds c.in-Err.ensures.passes

pub returns-in-Ok-clause-err : goal.returns-in-Ok-clause-err
returns-in-Ok-clause-err g c = taken_lacks _ _ _ c.chosen.result c.in_ok-command.ensures c.in-Ok.ensures.kinds c.in-Ok.ensures.matches c.chosen.ensures.err

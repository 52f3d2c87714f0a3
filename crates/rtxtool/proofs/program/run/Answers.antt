use Rattle.std.proofs.lemmas.Result.{IfErr-weaker}
use Rattle.rtxtool.specs.CommandLine.{said_by}
use Rattle.rtxtool.specs.Status.{status_of}
use Rattle.rtxtool.proofs.EndLemmas.{ends_stopped}
use Rattle.rtxtool.proofs.program.run.Goals as goal

pub returns-in-Ok-clause-err : goal.returns-in-Ok-clause-err
returns-in-Ok-clause-err g c =
    IfErr-weaker c.does.result _ _ (λ fault h. ends_stopped (status_of fault) (said_by c.in-Ok.choice) _ (g.O.Outside.known c.args.outside.now) _ _ c.in-Ok.ensures.ok h) c.does.ensures.err

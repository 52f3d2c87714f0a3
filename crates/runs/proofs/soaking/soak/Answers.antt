use Rattle.std.proofs.Common.{◌∙◌, refl, ap, arith}
use Rattle.world.specs.World.{empty}
use Rattle.runs.specs.Scene.{scene_of}
use Rattle.runs.proofs.SoakSteps.{drawn_run}
use Rattle.runs.proofs.TrafficSteps.{on_err}
use Rattle.runs.proofs.soaking.soak.Goals as goal

-- no word was drawn
pub returns-in_err-world-clause-err : goal.returns-in_err-world-clause-err
returns-in_err-world-clause-err g c = on_err c.from_residual.result _ (0, omega arith, refl)

pub returns-clause-counts : goal.returns-clause-counts
returns-clause-counts g c =
    drawn_run c.args.loss c.args.packets (g.R.Rng.stream c.args.rng.now) c.in_ok-world.world (scene_of c.soak_world.new.world) c.soak_world.result
    (c.in_ok-world.ensures ∙ ap empty c.soak_config.ensures) c.soak_world.ensures.run c.soak_world.ensures.tally

use Rattle.std.proofs.Common.{◌≡◌, ◌∙◌, ap}
use Rattle.world.specs.World.{Recorded}
use Rattle.runs.specs.Scene.{scene_of}
use Rattle.commands.specs.Loopback.{loopback_config}
use Rattle.commands.proofs.LoopbackLemmas.{breaks_off, breaks_off_at_once, loops}
use Rattle.commands.proofs.link_run.loopback.Goals as goal

pub returns-in_err-world-clause-err : goal.returns-in_err-world-clause-err
returns-in_err-world-clause-err g c = breaks_off_at_once c.from_residual.result c.args.packets c.args.drop.now (g.L.Link.traffic c.args.link.now)

pub returns-clause-counts : goal.returns-clause-counts
returns-clause-counts g c =
    let is : c.in_ok-world.world.config ≡ loopback_config = ap (λ (w : Recorded). w.config) c.in_ok-world.ensures ∙ c.loopback_config.ensures in
    loops c.in_ok-world.world.config c.args.packets c.args.drop.now (g.L.Link.traffic c.args.link.now) (g.L.Link.traffic c.drive.new.link) (scene_of c.drive.new.world) is
    c.drive.result c.drive.ensures.done c.drive.ensures.tally

pub returns-clause-err : goal.returns-clause-err
returns-clause-err g c =
    let is : c.in_ok-world.world.config ≡ loopback_config = ap (λ (w : Recorded). w.config) c.in_ok-world.ensures ∙ c.loopback_config.ensures in
    breaks_off c.in_ok-world.world.config c.args.packets c.args.drop.now (g.L.Link.traffic c.args.link.now) (g.L.Link.traffic c.drive.new.link) (scene_of c.drive.new.world) is
    c.drive.result c.drive.ensures.err

use Rattle.std.proofs.Common.{◌+◌, subst}
use Rattle.world.specs.Config.{Config}
use Rattle.runs.specs.Scene.{scene_of}
use Rattle.runs.specs.Drive.{asking, repairing, round_from, Reaches, StopsRun}
use Rattle.runs.proofs.TrafficSteps.{on_err, if_ok, if_err}
use Rattle.runs.proofs.DriveSteps.{reach_then, reach_stops, ask_reaches, ask_stops}
use Rattle.runs.proofs.driving.mend_once.Goals as goal

pub returns-in_err-exchange-clause-err : goal.returns-in_err-exchange-clause-err
returns-in_err-exchange-clause-err g c =
    on_err c.from_residual.result _
    (λ plan round at.
    ask_stops c.args.world.now.config plan round c.args.now (scene_of c.args.world.now) (scene_of c.exchange.new.world) (g.L.Link.traffic c.args.link.now) (g.L.Link.traffic c.exchange.new.link) at
    c.in_err-exchange.ensures.err)

pub returns-clause-done : goal.returns-clause-done
returns-clause-done g c =
    let config = c.args.world.now.config in
    let start = scene_of c.args.world.now in
    let mid = scene_of c.exchange.new.world in
    let new = scene_of c.repair_all.new.world in
    let told = g.L.Link.traffic c.args.link.now in
    let a = g.L.Link.traffic c.exchange.new.link in
    let b = g.L.Link.traffic c.repair_all.new.link in
    if_ok c.repair_all.result _ _
    (λ more plan round at.
    reach_then config plan (asking round) (repairing round) (round_from (round + 1)) start mid new told a b
    (ask_reaches config plan round c.args.now c.in_ok-exchange.field-0 start mid told a at c.in_ok-exchange.ensures.done)
    (subst (λ (x : Config). Reaches x plan (repairing round) mid a (round_from (round + 1)) new b) c.in_ok-exchange.ensures.config (more plan round at)))
    c.repair_all.ensures.done

pub returns-clause-err : goal.returns-clause-err
returns-clause-err g c =
    let config = c.args.world.now.config in
    let start = scene_of c.args.world.now in
    let mid = scene_of c.exchange.new.world in
    let new = scene_of c.repair_all.new.world in
    let told = g.L.Link.traffic c.args.link.now in
    let a = g.L.Link.traffic c.exchange.new.link in
    let b = g.L.Link.traffic c.repair_all.new.link in
    if_err c.repair_all.result _ _
    (λ stops plan round at.
    reach_stops config plan (asking round) (repairing round) start mid new told a b
    (ask_reaches config plan round c.args.now c.in_ok-exchange.field-0 start mid told a at c.in_ok-exchange.ensures.done)
    (subst (λ (x : Config). StopsRun x plan (repairing round) mid a new b) c.in_ok-exchange.ensures.config (stops plan round at)))
    c.repair_all.ensures.err

use Rattle.std.proofs.Common.{refl, subst}
use Rattle.world.specs.Config.{Config}
use Rattle.runs.specs.Scene.{scene_of}
use Rattle.runs.specs.Drive.{plan_of, round_from, send_from, playing, Reaches, StopsRun}
use Rattle.runs.proofs.TrafficSteps.{if_ok, if_err}
use Rattle.runs.proofs.DriveSteps.{reach_then, reach_stops}
use Rattle.runs.proofs.driving.send_and_mend.Goals as goal

pub returns-clause-done : goal.returns-clause-done
returns-clause-done g c =
    let plan = plan_of c.args.packets c.args.drop.now in
    let sent = scene_of c.send_all.new.world in
    let new = scene_of c.mend.new.world in
    let a = g.L.Link.traffic c.send_all.new.link in
    let b = g.L.Link.traffic c.mend.new.link in
    if_ok c.mend.result _ _
    (λ more.
    reach_then c.args.world.now.config plan (send_from plan 0) (round_from 0) playing (scene_of c.args.world.now) sent new (g.L.Link.traffic c.args.link.now) a b c.in_ok-send_all.ensures.done
    (subst (λ (x : Config). Reaches x plan (round_from 0) sent a playing new b) c.in_ok-send_all.ensures.config (more plan refl)))
    c.mend.ensures.done

pub returns-clause-err : goal.returns-clause-err
returns-clause-err g c =
    let plan = plan_of c.args.packets c.args.drop.now in
    let sent = scene_of c.send_all.new.world in
    let new = scene_of c.mend.new.world in
    let a = g.L.Link.traffic c.send_all.new.link in
    let b = g.L.Link.traffic c.mend.new.link in
    if_err c.mend.result _ _
    (λ stops.
    reach_stops c.args.world.now.config plan (send_from plan 0) (round_from 0) (scene_of c.args.world.now) sent new (g.L.Link.traffic c.args.link.now) a b c.in_ok-send_all.ensures.done
    (subst (λ (x : Config). StopsRun x plan (round_from 0) sent a new b) c.in_ok-send_all.ensures.config (stops plan refl)))
    c.mend.ensures.err

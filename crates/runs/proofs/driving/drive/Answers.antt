use Rattle.std.proofs.Common.{◌≡◌, ◌+◌, ap, subst, arith}
use Rattle.world.specs.Config.{Config}
use Rattle.runs.specs.Scene.{Scene, new_scene, scene_of}
use Rattle.runs.specs.Playing.{Plays, PlaysOut}
use Rattle.runs.specs.Drive.{plan_of, send_from, playing, done, moment_of, Reaches}
use Rattle.runs.proofs.TrafficSteps.{on_err}
use Rattle.runs.proofs.DriveSteps.{reach_then, stops_at, plays_reach, plays_out}
use Rattle.runs.proofs.driving.drive.Goals as goal

pub returns-in_err-play_all-clause-err : goal.returns-in_err-play_all-clause-err
returns-in_err-play_all-clause-err g c =
    let config = c.args.world.now.config in
    let plan = plan_of c.args.packets c.args.drop.now in
    let told = g.L.Link.traffic c.args.link.now in
    let a = g.L.Link.traffic c.send_and_mend.new.link in
    let mended = scene_of c.send_and_mend.new.world in
    let new = scene_of c.play_all.new.world in
    let now = c.from.result + 2 in
    let at : moment_of plan 2 ≡ now = omega (arith, c.from.ensures) in
    let before = subst (λ (s : Scene). Reaches config plan (send_from plan 0) s told playing mended a) (ap scene_of c.requires.fresh) c.in_ok-send_and_mend.ensures.done in
    let played = c.in_err-play_all.ensures.err in
    let plays = plays_reach config plan now played.0 mended new a at (subst (λ (x : Config). Plays x now played.0 mended new) c.in_ok-send_and_mend.ensures.config played.1) in
    on_err c.from_residual-in_err-play_all.result _
    (stops_at config plan (send_from plan 0) playing (new_scene config) new told a (reach_then config plan (send_from plan 0) playing playing (new_scene config) mended new told a a before plays))

pub returns-clause-done : goal.returns-clause-done
returns-clause-done g c =
    let config = c.args.world.now.config in
    let plan = plan_of c.args.packets c.args.drop.now in
    let told = g.L.Link.traffic c.args.link.now in
    let a = g.L.Link.traffic c.send_and_mend.new.link in
    let mended = scene_of c.send_and_mend.new.world in
    let now = c.from.result + 2 in
    let new = scene_of c.play_all.new.world in
    let at : moment_of plan 2 ≡ now = omega (arith, c.from.ensures) in
    let before = subst (λ (s : Scene). Reaches config plan (send_from plan 0) s told playing mended a) (ap scene_of c.requires.fresh) c.in_ok-send_and_mend.ensures.done in
    let plays = plays_out config plan now mended new a at (subst (λ (x : Config). PlaysOut x now mended new) c.in_ok-send_and_mend.ensures.config c.in_ok-play_all.ensures.plays) in
    reach_then config plan (send_from plan 0) playing done (new_scene config) mended new told a a before plays

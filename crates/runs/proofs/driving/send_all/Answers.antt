use Rattle.std.proofs.Common.{◌+◌, ◌∙◌, subst, arith}
use Rattle.world.specs.Config.{Config}
use Rattle.runs.specs.Scene.{scene_of}
use Rattle.runs.specs.Drive.{Phase, plan_of, sending, send_from, Reaches, StopsRun}
use Rattle.runs.proofs.TrafficSteps.{on_err}
use Rattle.runs.proofs.DriveSteps.{reach_then, reach_stops, send_from_below}
use Rattle.runs.proofs.driving.send_all.Goals as goal

pub returns-in_err-send_one-clause-err : goal.returns-in_err-send_one-clause-err
returns-in_err-send_one-clause-err g c =
    let was = c.loop-number.invariant in
    let config = c.args.world.now.config in
    let plan = plan_of c.args.packets c.args.drop.now in
    let number = c.loop-number.number in
    let start = scene_of c.args.world.now in
    let mid = scene_of c.loop-number.world in
    let new = scene_of c.send_one.new.world in
    let told = g.L.Link.traffic c.args.link.now in
    let a = g.L.Link.traffic c.loop-number.link in
    let b = g.L.Link.traffic c.send_one.new.link in
    let begun = subst (λ (q : Phase). Reaches config plan (send_from plan 0) start told q mid a) (send_from_below plan number (omega (arith, c.loop-number-test.true))) was.reaches in
    on_err c.from_residual.result _
    (reach_stops config plan (send_from plan 0) (sending number) start mid new told a b begun
    (subst (λ (x : Config). StopsRun x plan (sending number) mid a new b) was.config (c.in_err-send_one.ensures.err c.args.packets)))

pub loop-number-preserved : goal.loop-number-preserved
loop-number-preserved g c =
    let was = c.loop-number.invariant in
    let config = c.args.world.now.config in
    let plan = plan_of c.args.packets c.args.drop.now in
    let number = c.loop-number.number in
    let start = scene_of c.args.world.now in
    let mid = scene_of c.loop-number.world in
    let new = scene_of c.send_one.new.world in
    let told = g.L.Link.traffic c.args.link.now in
    let a = g.L.Link.traffic c.loop-number.link in
    let b = g.L.Link.traffic c.send_one.new.link in
    let begun = subst (λ (q : Phase). Reaches config plan (send_from plan 0) start told q mid a) (send_from_below plan number (omega (arith, c.loop-number-test.true))) was.reaches in
    record {
      config = c.in_ok-send_one.ensures.config ∙ was.config;
      failed = let h = c.in_ok-send_one.ensures.blame in omega (arith, h, was.failed);
      reaches = reach_then config plan (send_from plan 0) (sending number) (send_from plan (number + 1)) start mid new told a b begun
          (subst (λ (x : Config). Reaches x plan (sending number) mid a (send_from plan (number + 1)) new b) was.config (c.in_ok-send_one.ensures.done c.args.packets));
    }

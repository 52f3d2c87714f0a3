use Rattle.std.proofs.Common.{◌≡◌, ◌+◌, ◌∙◌, subst, arith}
use Rattle.world.specs.Config.{Config}
use Rattle.runs.specs.Scene.{scene_of}
use Rattle.runs.specs.Drive.{Phase, asking, round_from, moment_of, Reaches, StopsRun}
use Rattle.runs.proofs.TrafficSteps.{on_err}
use Rattle.runs.proofs.DriveSteps.{reach_then, reach_stops, round_from_below}
use Rattle.runs.proofs.driving.mend.Goals as goal

pub returns-in_err-mend_once-clause-err : goal.returns-in_err-mend_once-clause-err
returns-in_err-mend_once-clause-err g c =
    let was = c.loop-round.invariant in
    let config = c.args.world.now.config in
    let round = c.loop-round.round in
    let start = scene_of c.args.world.now in
    let mid = scene_of c.loop-round.world in
    let new = scene_of c.mend_once.new.world in
    let told = g.L.Link.traffic c.args.link.now in
    let a = g.L.Link.traffic c.loop-round.link in
    let b = g.L.Link.traffic c.mend_once.new.link in
    on_err c.from_residual.result _
    (λ plan is.
    let begun = subst (λ (q : Phase). Reaches config plan (round_from 0) start told q mid a) (round_from_below round (omega (arith, c.loop-round-test.true))) (was.reaches plan is) in
    let at : moment_of plan round ≡ c.from.result + round = omega (arith, is, c.from.ensures) in
    reach_stops config plan (round_from 0) (asking round) start mid new told a b begun
    (subst (λ (x : Config). StopsRun x plan (asking round) mid a new b) was.config (c.in_err-mend_once.ensures.err plan round at)))

pub loop-round-preserved : goal.loop-round-preserved
loop-round-preserved g c =
    let was = c.loop-round.invariant in
    let config = c.args.world.now.config in
    let round = c.loop-round.round in
    let start = scene_of c.args.world.now in
    let mid = scene_of c.loop-round.world in
    let new = scene_of c.mend_once.new.world in
    let told = g.L.Link.traffic c.args.link.now in
    let a = g.L.Link.traffic c.loop-round.link in
    let b = g.L.Link.traffic c.mend_once.new.link in
    record {
      config = c.in_ok-mend_once.ensures.config ∙ was.config;
      failed = let h = c.in_ok-mend_once.ensures.blame in omega (arith, h, was.failed);
      reaches = λ plan is.
          let begun = subst (λ (q : Phase). Reaches config plan (round_from 0) start told q mid a) (round_from_below round (omega (arith, c.loop-round-test.true))) (was.reaches plan is) in
          let at : moment_of plan round ≡ c.from.result + round = omega (arith, is, c.from.ensures) in
          reach_then config plan (round_from 0) (asking round) (round_from (round + 1)) start mid new told a b begun
          (subst (λ (x : Config). Reaches x plan (asking round) mid a (round_from (round + 1)) new b) was.config (c.in_ok-mend_once.ensures.done plan round at));
    }

pub returns-clause-done : goal.returns-clause-done
returns-clause-done g c plan is =
    let last : c.loop-round.round ≡ 3 = omega (arith, c.loop-round-test.false, c.loop-round.auto.round-end) in
    subst (λ n. Reaches c.args.world.now.config plan (round_from 0) (scene_of c.args.world.now) (g.L.Link.traffic c.args.link.now) (round_from n) (scene_of c.loop-round.world) (g.L.Link.traffic c.loop-round.link))
    last (c.loop-round.invariant.reaches plan is)

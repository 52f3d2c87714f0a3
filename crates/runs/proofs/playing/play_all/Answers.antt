use Rattle.std.proofs.Common.{◌∙◌, sym, subst}
use Rattle.world.specs.declared.event.Event.TheVariants.{Play}
use Rattle.world.specs.declared.event.Entry.TheVariants.{Played as Told}
use Rattle.world.specs.Config.{Config}
use Rattle.runs.specs.Scene.{Happens, scene_of}
use Rattle.runs.proofs.SceneSteps.{plays_more}
use Rattle.runs.proofs.playing.play_all.Goals as goal

pub loop-preserved : goal.loop-preserved
loop-preserved g c =
    let config = c.loop.invariant.config in
    let played = c.in_ok-play_once.ensures.played in
    let step = subst (λ (x : Config). Happens x (scene_of c.loop.world) (Play c.args.now) (Told c.args.now played.0) (scene_of c.play_once.new.world)) config played.1 in
    record {
      config = c.in_ok-play_once.ensures.config ∙ config;
      plays = plays_more c.args.world.now.config c.args.now (scene_of c.args.world.now) (scene_of c.loop.world) (scene_of c.play_once.new.world) c.loop.invariant.plays (played.0, step, sym played.2 ∙ c.if-branch.true);
    }

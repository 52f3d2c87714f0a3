use Rattle.std.proofs.Common.{◌+◌, ◌-◌, subst, ◌∙◌, arith}
use Rattle.rand_core.specs.Stream.{next_u32}
use Rattle.rand_core.specs.Steps.{first_words}
use Rattle.world.specs.Config.{Config}
use Rattle.runs.specs.Scene.{scene_of}
use Rattle.runs.specs.Playing.{PlaysOut}
use Rattle.runs.specs.Soak.{Settles}
use Rattle.runs.proofs.SoakSteps.{length-first_words, lost_most, events_lost, block_of}
use Rattle.runs.proofs.soaking.soak_block.Goals as goal

pub overflow_sub-result : goal.overflow_sub-result
overflow_sub-result g c =
    let h = events_lost c.args.loss c.datagrams-first.result c.from.result c.args.packets (g.R.Rng.stream c.args.rng.now) c.new-events.result.items c.deref.result.now c.new-events.ensures.items (c.deref.ensures.value ∙ c.in_ok-schedule.ensures.appended) in
    omega (arith, h, c.deref.ensures.len, c.len.ensures, c.from-4.ensures)

pub returns-clause-block : goal.returns-clause-block
returns-clause-block g c =
    let config = c.in_ok-happen_all.ensures.config in
    block_of c.args.world.now.config c.args.loss c.args.done c.args.packets c.datagrams-first.result c.from.result (c.from-2.result + c.from-3.result - 1) (first_words next_u32 c.args.packets (g.R.Rng.stream c.args.rng.now))
    c.deref.result.now c.new-events.result.items (scene_of c.args.world.now) (scene_of c.happen_all.new.world) (scene_of c.settle.new.self) (scene_of c.play_all.new.world)
    (length-first_words c.args.packets (g.R.Rng.stream c.args.rng.now)) c.datagrams-first.ensures.count c.from.ensures c.new-events.ensures.items (c.deref.ensures.value ∙ c.in_ok-schedule.ensures.appended)
    (omega (arith, c.from-2.ensures, c.from-3.ensures))
    c.in_ok-happen_all.ensures.does
    (subst (λ (x : Config). Settles x (c.from-2.result + c.from-3.result - 1) (scene_of c.happen_all.new.world) (scene_of c.settle.new.self)) config c.in_ok-settle.ensures.round)
    (subst (λ (x : Config). PlaysOut x (c.from-2.result + c.from-3.result - 1) (scene_of c.settle.new.self) (scene_of c.play_all.new.world)) (c.in_ok-settle.ensures.config ∙ config) c.in_ok-play_all.ensures.plays)

pub returns-clause-lost : goal.returns-clause-lost
returns-clause-lost g c =
    let h = events_lost c.args.loss c.datagrams-first.result c.from.result c.args.packets (g.R.Rng.stream c.args.rng.now) c.new-events.result.items c.deref.result.now c.new-events.ensures.items (c.deref.ensures.value ∙ c.in_ok-schedule.ensures.appended) in
    omega (arith, h, c.deref.ensures.len, c.len.ensures, c.from-4.ensures)

pub returns-clause-most : goal.returns-clause-most
returns-clause-most g c = let h = returns-clause-lost g c in omega (arith, h, lost_most c.args.loss c.args.packets (g.R.Rng.stream c.args.rng.now))

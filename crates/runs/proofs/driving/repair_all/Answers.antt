use Rattle.std.proofs.Common.{◌+◌, ◌∙◌, subst, arith}
use Rattle.world.specs.declared.event.End.TheVariants.{Receiver}
use Rattle.world.specs.declared.event.Event.TheVariants.{Repair}
use Rattle.world.specs.Config.{Config}
use Rattle.runs.specs.Scene.{scene_of}
use Rattle.runs.specs.Exchange.{Exchanges, IsInterrupted}
use Rattle.runs.specs.Marks.{first_kept}
use Rattle.runs.specs.Drive.{repairing, round_from}
use Rattle.runs.proofs.TrafficSteps.{on_err}
use Rattle.runs.proofs.DriveSteps.{reach_then, reach_stops, repair_again, repair_over, repair_stops}
use Rattle.runs.proofs.MarkSteps.{exchange_falls}
use Rattle.runs.proofs.driving.repair_all.Goals as goal

pub returns-in_err-exchange-clause-err : goal.returns-in_err-exchange-clause-err
returns-in_err-exchange-clause-err g c =
    let was = c.loop.invariant in
    let config = c.args.world.now.config in
    let start = scene_of c.args.world.now in
    let old = scene_of c.loop.world in
    let new = scene_of c.exchange.new.world in
    let told = g.L.Link.traffic c.args.link.now in
    let a = g.L.Link.traffic c.loop.link in
    let b = g.L.Link.traffic c.exchange.new.link in
    let breaks = subst (λ (x : Config). IsInterrupted x Repair Receiver old a new b) was.config c.in_err-exchange.ensures.err in
    on_err c.from_residual.result _
    (λ plan round at. reach_stops config plan (repairing round) (repairing round) start old new told a b (was.reaches plan round at) (repair_stops config plan round c.args.now old new a b at breaks))

pub loop-smaller : goal.loop-smaller
loop-smaller g c =
    (exchange_falls c.loop.world.config (first_kept c.args.world.now.sender.past) c.args.world.now.sender.past.capacity c.args.now c.in_ok-exchange.field-0 (scene_of c.loop.world) (scene_of c.exchange.new.world)
    (g.L.Link.traffic c.loop.link) (g.L.Link.traffic c.exchange.new.link) c.if-branch.true c.in_ok-exchange.ensures.done c.loop.invariant.covers).fewer

pub loop-preserved : goal.loop-preserved
loop-preserved g c =
    let was = c.loop.invariant in
    let config = c.args.world.now.config in
    let start = scene_of c.args.world.now in
    let old = scene_of c.loop.world in
    let new = scene_of c.exchange.new.world in
    let told = g.L.Link.traffic c.args.link.now in
    let a = g.L.Link.traffic c.loop.link in
    let b = g.L.Link.traffic c.exchange.new.link in
    let went = c.in_ok-exchange.field-0 in
    let exchanged = subst (λ (x : Config). Exchanges x Repair Receiver c.args.now old a went new b) was.config c.in_ok-exchange.ensures.done in
    record {
      config = c.in_ok-exchange.ensures.config ∙ was.config;
      failed = let h = c.in_ok-exchange.ensures.blame in omega (arith, h, was.failed);
      covers = (exchange_falls config (first_kept c.args.world.now.sender.past) c.args.world.now.sender.past.capacity c.args.now went old new a b c.if-branch.true exchanged was.covers).covers;
      reaches = λ plan round at. reach_then config plan (repairing round) (repairing round) (repairing round) start old new told a b (was.reaches plan round at) (repair_again config plan round c.args.now went old new a b at c.if-branch.true exchanged);
    }

pub returns-clause-done : goal.returns-clause-done
returns-clause-done g c plan round at =
    let was = c.loop.invariant in
    let config = c.args.world.now.config in
    let start = scene_of c.args.world.now in
    let old = scene_of c.loop.world in
    let new = scene_of c.exchange.new.world in
    let told = g.L.Link.traffic c.args.link.now in
    let a = g.L.Link.traffic c.loop.link in
    let b = g.L.Link.traffic c.exchange.new.link in
    let went = c.in_ok-exchange.field-0 in
    let exchanged = subst (λ (x : Config). Exchanges x Repair Receiver c.args.now old a went new b) was.config c.in_ok-exchange.ensures.done in
    reach_then config plan (repairing round) (repairing round) (round_from (round + 1)) start old new told a b (was.reaches plan round at) (repair_over config plan round c.args.now went old new a b at c.if-branch.false exchanged)

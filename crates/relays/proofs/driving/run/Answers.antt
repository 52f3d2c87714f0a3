use Rattle.std.proofs.Common.{◌∷◌, ◌∙◌, sym}
use Rattle.relays.proofs.Going.{goes_then, one_more, speaks_one}
use Rattle.relays.proofs.driving.run.Goals as goal

pub loop-count-preserved-in-Some : goal.loop-count-preserved-in-Some
loop-count-preserved-in-Some g c =
    let r = c.loop-count.invariant.ran in
    let a = g.O.Outside.traffic c.args.outside.now in
    let b = g.O.Outside.traffic c.loop-count.outside in
    let d = g.O.Outside.traffic c.deliver.new.outside in
    let met = speaks_one g.R.Relay.hears g.R.Relay.speaks g.R.Relay.done c.loop-count.relay c.loop-count.now c.speak.result c.in-Some.turn c.speak.new.out c.speak.new.self b d c.in-Some.is c.speak.ensures.speaks c.deliver.ensures in
    record {
      ran = (met.deed ∷ r.0, goes_then g.R.Relay.hears g.R.Relay.speaks g.R.Relay.done c.args.relay.now r.0 c.loop-count.relay c.loop-count.now c.speak.new.self c.loop-count.now a b d r.1 met, one_more met.deed r.0 c.loop-count._count r.2);
      room = c.speak.ensures.room;
    }

pub loop-count-preserved : goal.loop-count-preserved
loop-count-preserved g c =
    let r = c.loop-count.invariant.ran in
    let a = g.O.Outside.traffic c.args.outside.now in
    let b = g.O.Outside.traffic c.loop-count.outside in
    let d = g.O.Outside.traffic c.meet.new.outside in
    let met = c.in_ok-now.ensures.ok c.loop-count.relay c.loop-count.now c.speak.new.out c.in_default.ensures.speaks (sym c.is_done.ensures ∙ c.if-is_done.false) in
    record {
      ran = (met.deed ∷ r.0, goes_then g.R.Relay.hears g.R.Relay.speaks g.R.Relay.done c.args.relay.now r.0 c.loop-count.relay c.loop-count.now c.meet.new.relay c.in_ok-now.now a b d r.1 met, one_more met.deed r.0 c.loop-count._count r.2);
      room = c.in_ok-now.ensures.room;
    }

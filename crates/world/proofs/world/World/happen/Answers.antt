use Rattle.std.proofs.Common.{List, ◌∷◌, ◌∙◌, reverse, subst}
use Rattle.world.specs.declared.event.Entry.{Entry}
use Rattle.world.specs.Answers.{Item, Step}
use Rattle.world.specs.Close.{TellsCloseness}
use Rattle.world.specs.World.{stand_at}
use Rattle.world.proofs.Runs.{pushed, logged_more, tells_more}
use Rattle.world.proofs.world.World.happen.Goals as goal

pub returns-in-Some-clause-logged : goal.returns-in-Some-clause-logged
returns-in-Some-clause-logged g c =
    let w = c.self.inside in
    let answer = c.answered.ensures.step in
    let log = pushed (g.L.Log.entries w.log) (g.L.Log.entries c.make_room.new.self) (g.L.Log.entries c.answered.new.log) answer.0 answer.2 c.make_room.ensures.entries in
    let new = stand_at c.answered.new.sender (g.N.Wire.items c.answered.new.wire) c.answered.new.receiver in
    let step = subst (λ (x : List Item). Step w.config (stand_at w.sender x w.receiver) c.args.event.now answer.0 new) c.make_room-2.ensures.items answer.1 in
    logged_more w.config (g.L.Log.entries w.log) (g.L.Log.entries c.answered.new.log) answer.0 c.args.event.now (stand_at w.sender (g.N.Wire.items w.wire) w.receiver) new
    c.self.invariant.4 log step

pub invariant_of-self-in-Some : goal.invariant_of-self-in-Some
invariant_of-self-in-Some g c =
    let w = c.self.inside in
    let answer = c.answered.ensures.step in
    let log = pushed (g.L.Log.entries w.log) (g.L.Log.entries c.make_room.new.self) (g.L.Log.entries c.answered.new.log) answer.0 answer.2 c.make_room.ensures.entries in
    let closeness = c.after-self-inside in
    let last = c.in-Some.ensures.some (g.L.Log.entries w.log) answer.0 log in (
      c.answered.ensures.sender ∙ c.self.invariant.0,
      c.answered.ensures.history ∙ c.self.invariant.1,
      c.answered.ensures.receiver ∙ c.self.invariant.2,
      c.answered.ensures.window ∙ c.self.invariant.3,
      returns-in-Some-clause-logged g c,
      tells_more closeness.result.highest closeness.result.holds (g.L.Log.entries w.log) (g.L.Log.entries c.answered.new.log) answer.0 log
          (subst (λ (x : Entry). TellsCloseness closeness.result.highest closeness.result.holds (x ∷ reverse (g.L.Log.entries w.log))) last (closeness.ensures (reverse (g.L.Log.entries w.log)) c.self.invariant.5)),
    )

pub returns-in-Some-clause-promises : goal.returns-in-Some-clause-promises
returns-in-Some-clause-promises g c = c.logs_keep_promises.ensures _ c.limits.ensures _ _ (returns-in-Some-clause-logged g c)

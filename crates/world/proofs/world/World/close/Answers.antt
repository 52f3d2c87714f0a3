use Rattle.std.proofs.Common.{subst, reverse, IsTrue}
use Rattle.world.specs.Good.{IsGood}
use Rattle.world.specs.World.{Recorded, stand_at, stand_of}
use Rattle.world.proofs.Headline.{honest}
use Rattle.world.proofs.world.World.close.Goals as goal

pub returns-clause-good : goal.returns-clause-good
returns-clause-good g c = λ holds.
    let w = c.self.inside in
    let logged = c.self.invariant.4 in
    let tells = (c.self.invariant.5.holds_if).0 (subst IsTrue c.holds.ensures holds) in
    subst (λ (x : Recorded). IsGood x.config (reverse x.log) (stand_of x)) c.self.view_is
    (c.logs_are_good.ensures.good w.config c.limits.ensures (reverse logged.events) (reverse (g.L.Log.entries w.log)) (stand_at w.sender (g.N.Wire.items w.wire) w.receiver) logged.answers tells.0 (honest (reverse (g.L.Log.entries w.log)) tells.1))

use Rattle.std.proofs.Common.{true, false, arith, sym, ◌∙◌}
use Rattle.std.proofs.lemmas.List.{length-take-le}
use Rattle.gozdrit_relay.proofs.Sealing.{leaves_as}
use Rattle.gozdrit_relay.proofs.guard.Guard.seal.Goals as goal

pub returns-in_ok-seal_control-clause-sealed : goal.returns-in_ok-seal_control-clause-sealed
returns-in_ok-seal_control-clause-sealed c = λ profile key salt held.
    leaves_as true _ profile key salt _ _ _ _ (sym c.is_control.ensures ∙ c.if-is_control.true)
    (c.seal_control.auto.room ∙ length-take-le _ _ (omega (arith, c.told-out, c.requires)))
    (c.in_ok-seal_control.ensures.sealed profile key salt held)

pub returns-in_ok-seal_packet-clause-sealed : goal.returns-in_ok-seal_packet-clause-sealed
returns-in_ok-seal_packet-clause-sealed c = λ profile key salt held.
    leaves_as false _ profile key salt _ _ _ _ (sym c.is_control.ensures ∙ c.if-is_control.false)
    (c.seal_packet.auto.room ∙ length-take-le _ _ (omega (arith, c.told-out, c.requires)))
    (c.in_ok-seal_packet.ensures.sealed profile key salt held)

use Rattle.std.proofs.Common.{OnOk, subst}
use Rattle.contexts.specs.Heard.{LeavesSealedControl}
use Rattle.srtp.specs.Derivation.{rtcp_keys}
use Rattle.gozdrit_relay.proofs.Sealing.{control_of_copy}
use Rattle.gozdrit_relay.proofs.guard.seal_control.Goals as goal

pub returns-clause-sealed : goal.returns-clause-sealed
returns-clause-sealed c = λ profile key salt held.
    subst (λ p. OnOk c.seal_rtcp.result (LeavesSealedControl (rtcp_keys profile key salt) p c.seal_rtcp.new.packet))
    (control_of_copy _ _ _ c.copy_from_slice.ensures.after c.requires.room) (c.seal_rtcp.ensures.sealed profile key salt held)

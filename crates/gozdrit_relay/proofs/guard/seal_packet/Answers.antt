use Rattle.std.proofs.Common.{OnOk, subst}
use Rattle.contexts.specs.Heard.{LeavesSealed}
use Rattle.srtp.specs.Derivation.{rtp_keys}
use Rattle.gozdrit_relay.proofs.Sealing.{body_of_copy}
use Rattle.gozdrit_relay.proofs.guard.seal_packet.Goals as goal

pub returns-clause-sealed : goal.returns-clause-sealed
returns-clause-sealed c = λ profile key salt held.
    subst (λ p. OnOk c.seal_rtp.result (LeavesSealed (rtp_keys profile key salt) p c.seal_rtp.new.packet))
    (body_of_copy _ _ _ c.copy_from_slice.ensures.after c.requires.room) (c.seal_rtp.ensures.sealed profile key salt held)

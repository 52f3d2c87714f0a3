use Rattle.srtp.specs.Derivation.{rtcp_keys}
use Rattle.contexts.specs.Controls.{control_source, new_receiving}
use Rattle.contexts.proofs.ControlOpens.{has_source}
use Rattle.contexts.proofs.inbound.Inbound.open_rtcp.Goals as goal

pub returns-in-Err-clause-taken : goal.returns-in-Err-clause-taken
returns-in-Err-clause-taken c = λ receiver receiving found held taken.
    let ok = c.in-Err.ensures.found receiving.ssrc (has_source receiving c.args.packet.now taken) in
    cc

pub returns-in-Err-clause-first : goal.returns-in-Err-clause-first
returns-in-Err-clause-first c = λ profile key salt keyed none taken.
    let receiving = new_receiving (rtcp_keys profile key salt) (control_source c.args.packet.now) in
    let ok = c.in-Err.ensures.found receiving.ssrc (has_source receiving c.args.packet.now taken) in
    cc

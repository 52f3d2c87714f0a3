use Rattle.std.proofs.Common.{◌∙◌, sym}
use Rattle.contexts.proofs.Opens.{packet_has_header}
use Rattle.contexts.proofs.outbound.Outbound.seal_rtp.Goals as goal

pub returns-in-Err-clause-taken : goal.returns-in-Err-clause-taken
returns-in-Err-clause-taken c = λ stream context found held taken.
    let none = c.in-Err.ensures.fault ∙ sym (packet_has_header context c.args.packet.now taken) in
    cc

pub returns-else-contains-clause-first : goal.returns-else-contains-clause-first
returns-else-contains-clause-first c = λ profile key salt keyed none header room.
    c.seal_new.ensures.first profile key salt keyed c.in-Ok.ensures.source header room

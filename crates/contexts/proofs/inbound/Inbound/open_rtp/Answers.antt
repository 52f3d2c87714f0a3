use Rattle.std.proofs.Common.{◌∙◌, sym}
use Rattle.contexts.proofs.Opens.{has_header}
use Rattle.contexts.proofs.inbound.Inbound.open_rtp.Goals as goal

pub returns-in-Err-clause-taken : goal.returns-in-Err-clause-taken
returns-in-Err-clause-taken c = λ stream context found held taken.
    let none = c.in-Err.ensures.fault ∙ sym (has_header context c.args.packet.now taken) in
    cc

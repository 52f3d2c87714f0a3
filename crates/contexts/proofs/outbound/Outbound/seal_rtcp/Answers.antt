use Rattle.std.proofs.Common.{◌≡◌, None, sym, subst}
use Rattle.srtp.specs.Derivation.{rtcp_keys}
use Rattle.srtp.specs.Rtcp.{before_trailer, sending_fault}
use Rattle.srtp.specs.Stream.{body_of}
use Rattle.contexts.specs.Controls.{control_source}
use Rattle.contexts.specs.Outbound.{first_sending}
use Rattle.contexts.proofs.ControlOpens.{sending_has_source}
use Rattle.contexts.proofs.outbound.Outbound.seal_rtcp.Goals as goal

pub returns-in-Err-clause-taken : goal.returns-in-Err-clause-taken
returns-in-Err-clause-taken c = λ sender sending found held passed.
    let ok = c.in-Err.ensures.found sending.ssrc (sending_has_source sending c.args.packet.now passed) in
    cc

pub returns-in-Err-clause-first : goal.returns-in-Err-clause-first
returns-in-Err-clause-first c = λ profile key salt keyed none room passed.
    let sending = first_sending (rtcp_keys profile key salt) (control_source c.args.packet.now) in
    let ok = c.in-Err.ensures.found sending.ssrc (sending_has_source sending c.args.packet.now passed) in
    cc

pub returns-else-contains-clause-first : goal.returns-else-contains-clause-first
returns-else-contains-clause-first c = λ profile key salt keyed none room passed.
    let keys = rtcp_keys profile key salt in
    let body = before_trailer (body_of c.args.packet.now) in
    c.seal_new_control.ensures.first profile key salt keyed room
    (subst (λ s. sending_fault (first_sending keys s) body ≡ None) (sym c.in-Ok.ensures.source) passed)

use Rattle.std.proofs.Common.{◌∙◌, sym, true, false}
use Rattle.std.proofs.lemmas.Result.{err_from_is_err_and}
use Rattle.srtp.proofs.RtcpChecks.{parts_are, by_packet, by_trailer, by_tag}
use Rattle.srtp.proofs.rtcp.RtcpReceiver.unprotect.Goals as goal

pub returns-in_err-check-clause-fault : goal.returns-in_err-check-clause-fault
returns-in_err-check-clause-fault g c = λ receiving held.
    let p = err_from_is_err_and c.from_residual.result c.from_residual.ensures.1 in
    let parts = parts_are c.args.packet.now _ _ _ _ _ _ c.saturating_sub.ensures c.split_at_mut-front.ensures.front c.split_at_mut-front.ensures.back
    c.saturating_sub-2.ensures c.split_at_mut-body.ensures.front c.split_at_mut-body.ensures.back in
    rw (p.1, p.2) (by_packet receiving _ c.args.packet.now _ _ _ _ _ parts held.ssrc c.in_err-check.ensures.fault)

pub returns-in_err-index-clause-fault : goal.returns-in_err-index-clause-fault
returns-in_err-index-clause-fault g c = λ receiving held.
    let p = err_from_is_err_and c.from_residual-in_err-index.result c.from_residual-in_err-index.ensures.1 in
    let parts = parts_are c.args.packet.now _ _ _ _ _ _ c.saturating_sub.ensures c.split_at_mut-front.ensures.front c.split_at_mut-front.ensures.back
    c.saturating_sub-2.ensures c.split_at_mut-body.ensures.front c.split_at_mut-body.ensures.back in
    rw (p.1, p.2) (by_trailer receiving _ c.args.packet.now _ _ _ _ _ parts held.ssrc c.in_ok-check.ensures.fault (c.in_err-index.ensures.fault receiving held))

pub returns-then-not-same_tag-clause-fault : goal.returns-then-not-same_tag-clause-fault
returns-then-not-same_tag-clause-fault g c = λ receiving held.
    let parts = parts_are c.args.packet.now _ _ _ _ _ _ c.saturating_sub.ensures c.split_at_mut-front.ensures.front c.split_at_mut-front.ensures.back
    c.saturating_sub-2.ensures c.split_at_mut-body.ensures.front c.split_at_mut-body.ensures.back in
    by_tag receiving _ c.args.packet.now _ _ _ _ _ false parts held.ssrc c.in_ok-check.ensures.fault (c.in_ok-index.ensures.fault receiving held)
    (c.tag_of-expected.ensures receiving.keys held.keys) (sym c.if-not-same_tag.true ∙ c.same_tag.ensures)

pub returns-clause-fault : goal.returns-clause-fault
returns-clause-fault g c = λ receiving held.
    let parts = parts_are c.args.packet.now _ _ _ _ _ _ c.saturating_sub.ensures c.split_at_mut-front.ensures.front c.split_at_mut-front.ensures.back
    c.saturating_sub-2.ensures c.split_at_mut-body.ensures.front c.split_at_mut-body.ensures.back in
    by_tag receiving _ c.args.packet.now _ _ _ _ _ true parts held.ssrc c.in_ok-check.ensures.fault (c.in_ok-index.ensures.fault receiving held)
    (c.tag_of-expected.ensures receiving.keys held.keys) (sym c.if-not-same_tag.false ∙ c.same_tag.ensures)

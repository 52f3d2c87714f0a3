use Rattle.std.proofs.lemmas.Result.{err_from_is_err_and}
use Rattle.srtp.proofs.Checks.{by_packet_at, by_tag_at}
use Rattle.srtp.proofs.stream.Stream.unprotect_at.Goals as goal

pub returns-in_err-spot-clause-fault : goal.returns-in_err-spot-clause-fault
returns-in_err-spot-clause-fault g c = λ context held.
    let p = err_from_is_err_and c.from_residual.result c.from_residual.ensures.1 in
    rw (p.1, p.2) (by_packet_at context c.args.packet.now _ c.args.rollover _ c.body_of.ensures (c.in_err-spot.ensures.fault context held))

pub returns-clause-fault : goal.returns-clause-fault
returns-clause-fault g c = λ context held.
    by_tag_at context c.args.packet.now _ c.args.rollover _ _ c.body_of.ensures (c.in_ok-spot.ensures.fault context held) c.in_ok-spot.ensures.index
    (c.open.ensures.fault context held)

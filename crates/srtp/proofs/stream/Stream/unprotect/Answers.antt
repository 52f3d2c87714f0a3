use Rattle.std.proofs.lemmas.Result.{err_from_is_err_and}
use Rattle.srtp.proofs.Checks.{by_packet, by_tag}
use Rattle.srtp.proofs.stream.Stream.unprotect.Goals as goal

pub returns-in_err-spot-clause-fault : goal.returns-in_err-spot-clause-fault
returns-in_err-spot-clause-fault g c = λ context held.
    let p = err_from_is_err_and c.from_residual.result c.from_residual.ensures.1 in
    rw (p.1, p.2) (by_packet context c.args.packet.now _ _ c.body_of.ensures (c.in_err-spot.ensures.fault context held))

pub returns-clause-fault : goal.returns-clause-fault
returns-clause-fault g c = λ context held.
    by_tag context c.args.packet.now _ _ _ c.body_of.ensures (c.in_ok-spot.ensures.fault context held) (c.in_ok-spot.ensures.index context held)
    (c.open.ensures.fault context held)

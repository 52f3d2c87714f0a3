use Rattle.std.proofs.Common.{◌≡◌, ◌∙◌, sym, Some, None}
use Rattle.std.proofs.lemmas.Result.{err_from_is_err_and}
use Rattle.srtp.specs.Header.{ssrc_of}
use Rattle.srtp.proofs.Checks.{by_header, by_source, by_guess, by_replay, remembered, answered}
use Rattle.srtp.proofs.stream.Stream.spot.Goals as goal

pub returns-in_err-clear-clause-fault : goal.returns-in_err-clear-clause-fault
returns-in_err-clear-clause-fault g c = λ context held.
    let p = err_from_is_err_and c.from_residual.result c.from_residual.ensures.1 in
    rw (p.1, p.2) (by_header context c.args.octets.now _ c.in_err-clear.ensures.fault)

pub returns-then-ssrc_of-self-clause-fault : goal.returns-then-ssrc_of-self-clause-fault
returns-then-ssrc_of-self-clause-fault g c = λ context held.
    by_source context c.args.octets.now c.in_ok-clear.ensures.fault (λ e. c.if-ssrc_of-self.true (c.ssrc_of.ensures ∙ e ∙ sym held.ssrc))

pub returns-in_err-index-clause-fault : goal.returns-in_err-index-clause-fault
returns-in_err-index-clause-fault g c = λ context held.
    let p = err_from_is_err_and c.from_residual-in_err-index.result c.from_residual-in_err-index.ensures.1 in
    let same : ssrc_of c.args.octets.now ≡ context.ssrc = sym c.ssrc_of.ensures ∙ c.if-ssrc_of-self.false ∙ held.ssrc in
    rw (p.1, p.2)
    (by_guess context c.args.octets.now _ c.in_ok-clear.ensures.fault same (rw c.sequence_of.ensures at c.in_err-index.ensures.fault context held))

pub returns-in-Ok-clause-fault : goal.returns-in-Ok-clause-fault
returns-in-Ok-clause-fault g c = λ context held.
    let same : ssrc_of c.args.octets.now ≡ context.ssrc = sym c.ssrc_of.ensures ∙ c.if-ssrc_of-self.false ∙ held.ssrc in
    by_replay context c.args.octets.now None c.in_ok-clear.ensures.fault same (rw c.sequence_of.ensures at c.in_ok-index.ensures.fault context held)
    (answered g.row.N c.in_ok-index.index context c.args.octets.now c.sequence_of.result None held.len_is c.sequence_of.ensures
    (c.in_ok-index.ensures.index context held) (c.in-Ok.ensures context.taken (remembered g.row.N c.args.self.now context held)))

pub returns-in-Err-clause-fault : goal.returns-in-Err-clause-fault
returns-in-Err-clause-fault g c = λ context held.
    let same : ssrc_of c.args.octets.now ≡ context.ssrc = sym c.ssrc_of.ensures ∙ c.if-ssrc_of-self.false ∙ held.ssrc in
    rw c.of_replay.ensures
    (by_replay context c.args.octets.now (Some c.in-Err.fault) c.in_ok-clear.ensures.fault same (rw c.sequence_of.ensures at c.in_ok-index.ensures.fault context held)
    (answered g.row.N c.in_ok-index.index context c.args.octets.now c.sequence_of.result (Some c.in-Err.fault) held.len_is c.sequence_of.ensures
    (c.in_ok-index.ensures.index context held) (c.in-Err.ensures context.taken (remembered g.row.N c.args.self.now context held))))

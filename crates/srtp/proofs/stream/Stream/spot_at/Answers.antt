use Rattle.std.proofs.Common.{◌≡◌, ◌∙◌, sym, Some, None}
use Rattle.std.proofs.lemmas.Result.{err_from_is_err_and}
use Rattle.srtp.specs.Header.{ssrc_of}
use Rattle.srtp.proofs.Checks.{by_header_at, by_source_at, by_replay_at, remembered}
use Rattle.srtp.proofs.stream.Stream.spot_at.Goals as goal

pub returns-in_err-clear-clause-fault : goal.returns-in_err-clear-clause-fault
returns-in_err-clear-clause-fault g c = λ context held.
    let p = err_from_is_err_and c.from_residual.result c.from_residual.ensures.1 in
    rw (p.1, p.2) (by_header_at context _ c.args.octets.now _ c.in_err-clear.ensures.fault)

pub returns-then-ssrc_of-self-clause-fault : goal.returns-then-ssrc_of-self-clause-fault
returns-then-ssrc_of-self-clause-fault g c = λ context held.
    by_source_at context _ c.args.octets.now c.in_ok-clear.ensures.fault (λ e. c.if-ssrc_of-self.true (c.ssrc_of.ensures ∙ e ∙ sym held.ssrc))

pub returns-in-Ok-clause-fault : goal.returns-in-Ok-clause-fault
returns-in-Ok-clause-fault g c = λ context held.
    let same : ssrc_of c.args.octets.now ≡ context.ssrc = sym c.ssrc_of.ensures ∙ c.if-ssrc_of-self.false ∙ held.ssrc in
    by_replay_at g.row.N _ context c.args.octets.now c.args.rollover _ None held.len_is c.sequence_of.ensures c.index_behind-index.ensures.value
    c.in_ok-clear.ensures.fault same (c.in-Ok.ensures context.taken (remembered g.row.N c.args.self.now context held))

pub returns-in-Err-clause-fault : goal.returns-in-Err-clause-fault
returns-in-Err-clause-fault g c = λ context held.
    let same : ssrc_of c.args.octets.now ≡ context.ssrc = sym c.ssrc_of.ensures ∙ c.if-ssrc_of-self.false ∙ held.ssrc in
    rw c.of_replay.ensures
    (by_replay_at g.row.N _ context c.args.octets.now c.args.rollover _ (Some c.in-Err.fault) held.len_is c.sequence_of.ensures
    c.index_behind-index.ensures.value c.in_ok-clear.ensures.fault same (c.in-Err.ensures context.taken (remembered g.row.N c.args.self.now context held)))

use Rattle.std.proofs.Common.{◌≡◌, subst, Some, nat_eq}
use Rattle.std.proofs.lemmas.Result.{err_from_is_err_and}
use Rattle.std.specs.Cmp.{nat_eq_equiv}
use Rattle.std.specs.Map.{lookup}
use Rattle.lru.proofs.CallerLemmas.{lookup-put_entries}
use Rattle.srtp.specs.Derivation.{rtp_keys}
use Rattle.contexts.specs.Inbound.{TakenIn, new_context}
use Rattle.contexts.proofs.Opens.{no_refusal, on_ok, takes_first}
use Rattle.contexts.proofs.inbound.Inbound.open_new.Goals as goal

pub returns-clause-begun : goal.returns-clause-begun
returns-clause-begun c = λ profile key salt keyed.
    let begun = c.in_ok-begin.ensures.begun profile key salt keyed in
    let context = new_context (rtp_keys profile key salt) c.args.ssrc begun.rollover in
    let found : lookup (nat_eq c.args.ssrc) c.begin.new.self.streams.entries ≡ Some begun.at.stream =
    rw begun.at.kept (lookup-put_entries nat_eq c.args.self.now.streams c.args.ssrc begun.at.stream nat_eq_equiv) in
    on_ok c.open_known.result (c.open_known.ensures.known begun.at.stream context found begun.at.fresh) (λ taken. record {
      rollover = begun.rollover;
      stream = begun.at.stream;
      taken = subst (λ old. TakenIn c.args.ssrc context c.args.packet.now c.open_known.new.packet old c.open_known.new.self.streams) begun.at.kept taken;
    })

pub returns-in_err-begin-clause-first : goal.returns-in_err-begin-clause-first
returns-in_err-begin-clause-first c = λ profile key salt keyed source session.
    let p = err_from_is_err_and c.from_residual.result c.from_residual.ensures.1 in
    rw (p.1, p.2) (c.in_err-begin.ensures.first profile key salt keyed session)

pub returns-clause-first : goal.returns-clause-first
returns-clause-first c = λ profile key salt keyed source session.
    let begun = c.in_ok-begin.ensures.first profile key salt keyed session in
    let found : lookup (nat_eq c.args.ssrc) c.begin.new.self.streams.entries ≡ Some begun.stream =
    rw begun.kept (lookup-put_entries nat_eq c.args.self.now.streams c.args.ssrc begun.stream nat_eq_equiv) in
    let keys = rtp_keys profile key salt in
    no_refusal c.open_known.result _ (c.open_known.ensures.taken begun.stream (new_context keys c.args.ssrc 0) found begun.fresh
    (takes_first keys c.args.ssrc c.args.packet.now source session))

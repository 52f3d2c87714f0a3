use Rattle.std.proofs.Common.{◌≡◌, subst, Some, nat_eq}
use Rattle.std.proofs.lemmas.Result.{err_from_is_err_and}
use Rattle.std.specs.Cmp.{nat_eq_equiv}
use Rattle.std.specs.Map.{lookup}
use Rattle.lru.proofs.CallerLemmas.{lookup-put_entries}
use Rattle.srtp.specs.Derivation.{rtp_keys}
use Rattle.contexts.specs.Outbound.{Seals, first_context}
use Rattle.contexts.proofs.Opens.{no_refusal, on_ok, seals_first}
use Rattle.contexts.proofs.outbound.Outbound.seal_new.Goals as goal

pub returns-clause-begun : goal.returns-clause-begun
returns-clause-begun c = λ profile key salt keyed.
    let begun = c.in_ok-begin.ensures.begun profile key salt keyed in
    let context = first_context (rtp_keys profile key salt) c.args.ssrc in
    let found : lookup (nat_eq c.args.ssrc) c.begin.new.self.streams.entries ≡ Some begun.stream =
    rw begun.kept (lookup-put_entries nat_eq c.args.self.now.streams c.args.ssrc begun.stream nat_eq_equiv) in
    on_ok c.seal_known.result (c.seal_known.ensures.known begun.stream context found begun.fresh) (λ sealed. record {
      stream = begun.stream;
      sealed_is = subst (λ old. Seals c.args.ssrc context c.args.packet.now c.seal_known.new.packet old c.seal_known.new.self.streams) begun.kept sealed;
    })

pub returns-in_err-begin-clause-first : goal.returns-in_err-begin-clause-first
returns-in_err-begin-clause-first c = λ profile key salt keyed source header room.
    let p = err_from_is_err_and c.from_residual.result c.from_residual.ensures.1 in
    rw (p.1, p.2) (c.in_err-begin.ensures.full room)

pub returns-clause-first : goal.returns-clause-first
returns-clause-first c = λ profile key salt keyed source header room.
    let begun = c.in_ok-begin.ensures.begun profile key salt keyed in
    let keys = rtp_keys profile key salt in
    let found : lookup (nat_eq c.args.ssrc) c.begin.new.self.streams.entries ≡ Some begun.stream =
    rw begun.kept (lookup-put_entries nat_eq c.args.self.now.streams c.args.ssrc begun.stream nat_eq_equiv) in
    no_refusal c.seal_known.result _ (c.seal_known.ensures.taken begun.stream (first_context keys c.args.ssrc) found begun.fresh
    (seals_first keys c.args.ssrc c.args.packet.now source header))

pub returns-clause-keyed : goal.returns-clause-keyed
returns-clause-keyed c = λ profile key salt keyed.
    c.seal_known.ensures.keyed profile key salt (c.in_ok-begin.ensures.keyed profile key salt keyed)

pub returns-clause-sealed : goal.returns-clause-sealed
returns-clause-sealed c = λ profile key salt keyed.
    c.seal_known.ensures.sealed profile key salt (c.in_ok-begin.ensures.keyed profile key salt keyed)

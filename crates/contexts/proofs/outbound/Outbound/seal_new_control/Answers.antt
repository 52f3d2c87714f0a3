use Rattle.std.proofs.Common.{◌≡◌, subst, Some, nat_eq}
use Rattle.std.proofs.lemmas.Result.{err_from_is_err_and}
use Rattle.std.specs.Cmp.{nat_eq_equiv}
use Rattle.std.specs.Map.{lookup}
use Rattle.lru.proofs.CallerLemmas.{lookup-put_entries}
use Rattle.srtp.specs.Derivation.{rtcp_keys}
use Rattle.contexts.specs.Outbound.{SealsControl, first_sending}
use Rattle.contexts.proofs.Opens.{no_refusal, on_ok}
use Rattle.contexts.proofs.outbound.Outbound.seal_new_control.Goals as goal

pub returns-clause-begun : goal.returns-clause-begun
returns-clause-begun c = λ profile key salt keyed.
    let begun = c.in_ok-begin_control.ensures.begun profile key salt keyed in
    let sending = first_sending (rtcp_keys profile key salt) c.args.ssrc in
    let found : lookup (nat_eq c.args.ssrc) c.begin_control.new.self.controls.entries ≡ Some begun.sender =
    rw begun.kept (lookup-put_entries nat_eq c.args.self.now.controls c.args.ssrc begun.sender nat_eq_equiv) in
    on_ok c.seal_control.result (c.seal_control.ensures.known begun.sender sending found begun.fresh) (λ sealed. record {
      sender = begun.sender;
      sealed_is = subst (λ old. SealsControl c.args.ssrc sending c.args.packet.now c.seal_control.new.packet old c.seal_control.new.self.controls) begun.kept sealed;
    })

pub returns-in_err-begin_control-clause-first : goal.returns-in_err-begin_control-clause-first
returns-in_err-begin_control-clause-first c = λ profile key salt keyed room passed.
    let p = err_from_is_err_and c.from_residual.result c.from_residual.ensures.1 in
    rw (p.1, p.2) (c.in_err-begin_control.ensures.full room)

pub returns-clause-first : goal.returns-clause-first
returns-clause-first c = λ profile key salt keyed room passed.
    let begun = c.in_ok-begin_control.ensures.begun profile key salt keyed in
    let keys = rtcp_keys profile key salt in
    let found : lookup (nat_eq c.args.ssrc) c.begin_control.new.self.controls.entries ≡ Some begun.sender =
    rw begun.kept (lookup-put_entries nat_eq c.args.self.now.controls c.args.ssrc begun.sender nat_eq_equiv) in
    no_refusal c.seal_control.result _ (c.seal_control.ensures.taken begun.sender (first_sending keys c.args.ssrc) found begun.fresh passed)

pub returns-clause-keyed : goal.returns-clause-keyed
returns-clause-keyed c = λ profile key salt keyed.
    c.seal_control.ensures.keyed profile key salt (c.in_ok-begin_control.ensures.keyed profile key salt keyed)

pub returns-clause-sealed : goal.returns-clause-sealed
returns-clause-sealed c = λ profile key salt keyed.
    c.seal_control.ensures.sealed profile key salt (c.in_ok-begin_control.ensures.keyed profile key salt keyed)

use Rattle.std.proofs.Common.{◌≡◌, subst, Some, nat_eq}
use Rattle.std.proofs.lemmas.Result.{err_from_is_err_and}
use Rattle.std.specs.Cmp.{nat_eq_equiv}
use Rattle.std.specs.Map.{lookup}
use Rattle.lru.proofs.CallerLemmas.{lookup-put_entries}
use Rattle.srtp.specs.Derivation.{rtcp_keys}
use Rattle.contexts.specs.Controls.{ControlIn, new_receiving}
use Rattle.contexts.proofs.Opens.{no_refusal, on_ok}
use Rattle.contexts.proofs.ControlOpens.{tag_is_right}
use Rattle.contexts.proofs.inbound.Inbound.open_new_control.Goals as goal

pub returns-in_err-begin_control-clause-first : goal.returns-in_err-begin_control-clause-first
returns-in_err-begin_control-clause-first c = λ profile key salt keyed taken.
    let p = err_from_is_err_and c.from_residual.result c.from_residual.ensures.1 in
    let keys = rtcp_keys profile key salt in
    rw (p.1, p.2) (c.in_err-begin_control.ensures.first profile key salt keyed (tag_is_right (new_receiving keys c.args.ssrc) c.args.packet.now taken))

pub returns-clause-begun : goal.returns-clause-begun
returns-clause-begun c = λ profile key salt keyed.
    let begun = c.in_ok-begin_control.ensures.begun profile key salt keyed in
    let receiving = new_receiving (rtcp_keys profile key salt) c.args.ssrc in
    let found : lookup (nat_eq c.args.ssrc) c.begin_control.new.self.controls.entries ≡ Some begun.receiver =
    rw begun.kept (lookup-put_entries nat_eq c.args.self.now.controls c.args.ssrc begun.receiver nat_eq_equiv) in
    on_ok c.open_control.result (c.open_control.ensures.known begun.receiver receiving found begun.fresh) (λ taken. record {
      receiver = begun.receiver;
      taken = subst (λ old. ControlIn c.args.ssrc receiving c.args.packet.now c.open_control.new.packet old c.open_control.new.self.controls) begun.kept taken;
    })

pub returns-clause-first : goal.returns-clause-first
returns-clause-first c = λ profile key salt keyed taken.
    let begun = c.in_ok-begin_control.ensures.begun profile key salt keyed in
    let receiving = new_receiving (rtcp_keys profile key salt) c.args.ssrc in
    let found : lookup (nat_eq c.args.ssrc) c.begin_control.new.self.controls.entries ≡ Some begun.receiver =
    rw begun.kept (lookup-put_entries nat_eq c.args.self.now.controls c.args.ssrc begun.receiver nat_eq_equiv) in
    no_refusal c.open_control.result _ (c.open_control.ensures.taken begun.receiver receiving found begun.fresh taken)

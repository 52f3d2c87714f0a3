use Rattle.std.proofs.Common.{sym, subst}
use Rattle.srtp.specs.Stream.{IsStream}
use Rattle.contexts.specs.declared.inbound.TheConstants.{INDICES}
use Rattle.contexts.proofs.Opens.{opens_guessed, opens_or_refuses}
use Rattle.contexts.proofs.opening.open_in.Goals as goal

pub returns-in-Ok-clause-ok : goal.returns-in-Ok-clause-ok
returns-in-Ok-clause-ok c = λ context held.
    let ok = c.in-Ok.ensures.ok context held in
    opens_guessed context c.args.packet.now _ _ (c.in-Ok.ensures.fault context held) ok.0 ok.1

pub returns-in-Some-clause-ok : goal.returns-in-Some-clause-ok
returns-in-Some-clause-ok c = λ context held.
    let before : IsStream INDICES c.unprotect.new.self context = subst (λ s. IsStream INDICES s context) (sym c.in-Err.ensures.err.0) held in
    opens_or_refuses context c.args.packet.now c.unprotect.new.packet _ _ c.in-Some.rollover _ c.in-Err.ensures.err.1
    (c.unprotect_at.ensures.ok context before) (c.unprotect_at.ensures.fault context before)

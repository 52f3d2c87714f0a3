use Rattle.std.proofs.Common.{◌∙◌, ap, refl, subst, sym, Ok, Err}
use Rattle.receiver.specs.Receiver.{Receiving}
use Rattle.endpoint.specs.declared.holding.Run.{Run}
use Rattle.endpoint.specs.Receiving.{AfterHeld, Handed, ends_of, run_refused}
use Rattle.endpoint.proofs.holding.hold_back.Goals as goal

pub returns-in-Err : goal.returns-in-Err
returns-in-Err g c = λ octets spelled.
    record {
      mid = c.hand.new.receiver;
      taken = Err c.in-Err.fault;
      handed = subst (λ (r : Receiving). Handed r octets c.args.now (Err c.in-Err.fault) c.hand.new.receiver) c.begin_unless_followed.ensures.spare (c.in-Err.ensures octets spelled);
      after = (refl, ap (λ (r : Run). ends_of c.args.core.now c.hand.new.receiver r) (c.refused.ensures ∙ ap (run_refused c.args.probation.now.silence) c.begin_unless_followed.ensures.run));
    }

pub returns-in-Ok : goal.returns-in-Ok
returns-in-Ok g c = λ octets spelled.
    record {
      mid = c.hand.new.receiver;
      taken = Ok c.in-Ok.taken;
      handed = subst (λ (r : Receiving). Handed r octets c.args.now (Ok c.in-Ok.taken) c.hand.new.receiver) c.begin_unless_followed.ensures.spare (c.in-Ok.ensures octets spelled);
      after =
          subst (λ (r : Run). AfterHeld c.args.probation.now (ends_of c.args.core.now c.args.spare.now c.args.run.now) c.hand.new.receiver r c.args.seq c.args.now (Ok c.in-Ok.taken) (Ok c.count_held.result)
          (ends_of c.count_held.new.core c.count_held.new.spare c.count_held.new.run))
          c.begin_unless_followed.ensures.run c.count_held.ensures;
    }

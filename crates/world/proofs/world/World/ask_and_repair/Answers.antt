use Rattle.std.proofs.Common.{◌∙◌, List, reverse, refl, sym, ap, subst, arith}
use Rattle.world.specs.declared.event.Event.TheVariants.{Repair as Retransmit, Ask, Deliver}
use Rattle.world.specs.declared.event.Entry.{Entry}
use Rattle.world.specs.declared.event.Entry.TheVariants.{Asked, NoAsk, Repaired, NoRepair}
use Rattle.world.specs.Answers.{Step}
use Rattle.world.specs.Config.{Config}
use Rattle.world.specs.Close.{IsClose}
use Rattle.world.specs.Round.{IsAsking, IsRepairing, IsRoundBegun, IsMended}
use Rattle.world.specs.World.{Recorded, stand_of}
use Rattle.world.proofs.Simulates.{Laws}
use Rattle.world.proofs.Totals.{asks_left_most, marks_left_most}
use Rattle.world.proofs.RoundSteps.{goes_nowhere, goes_on, goes_same, goes_as, asks_heard, asks_end, repairs_heard, repairs_end, asking_begun, repairing_begun, ask_begun, repair_begun, ask_falls, repair_falls, one_longer, on_err, at_none, back}
use Rattle.world.proofs.world.World.ask_and_repair.Goals as goal

pub loop-ask-init : goal.loop-ask-init
loop-ask-init g c =
    record {
      config = refl;
      goes_on = goes_nowhere c.args.self.now.config c.args.now (stand_of c.args.self.now) c.args.self.now.log;
      told = omega arith;
      counted = let h = asks_left_most c.args.self.now.config c.args.now (stand_of c.args.self.now).receiver in omega (arith, h);
    }

pub returns-in_err-ask-clause-err : goal.returns-in_err-ask-clause-err
returns-in_err-ask-clause-err g c =
    on_err c.from_residual.result _
    (goes_same c.args.self.now.config (IsRoundBegun c.args.now) (stand_of c.args.self.now) (stand_of c.loop-ask.self) (stand_of c.ask_once.new.self) c.args.self.now.log c.loop-ask.self.log c.ask_once.new.self.log
    (goes_as c.args.self.now.config (IsAsking c.args.now) (IsRoundBegun c.args.now) (stand_of c.args.self.now) (stand_of c.loop-ask.self) c.args.self.now.log c.loop-ask.self.log (asking_begun c.args.now) c.loop-ask.invariant.goes_on)
    (ap stand_of c.in_err-ask.ensures.err) (ap (λ (w : Recorded). w.log) c.in_err-ask.ensures.err))

pub returns-in_err-advance-clause-err : goal.returns-in_err-advance-clause-err
returns-in_err-advance-clause-err g c =
    let config = c.loop-ask.invariant.config in
    let told = rw c.in-Some.is at c.in_ok-ask.ensures.asked in
    let step = subst (λ (x : Config). Step x (stand_of c.loop-ask.self) (Ask c.args.now) (Asked c.in-Some.ask c.args.now) (stand_of c.ask_once.new.self)) config told.0 in
    on_err c.from_residual-in_err-advance.result _
    (goes_same c.args.self.now.config (IsRoundBegun c.args.now) (stand_of c.args.self.now) (stand_of c.ask_once.new.self) (stand_of c.advance.new.self) c.args.self.now.log c.ask_once.new.self.log c.advance.new.self.log
    (goes_on c.args.self.now.config (IsAsking c.args.now) (IsRoundBegun c.args.now) (stand_of c.args.self.now) (stand_of c.loop-ask.self) (stand_of c.ask_once.new.self) c.args.self.now.log c.loop-ask.self.log c.ask_once.new.self.log (Ask c.args.now) (Asked c.in-Some.ask c.args.now) c.loop-ask.invariant.goes_on step told.1 (ask_begun c.args.now c.in-Some.ask))
    (ap stand_of c.in_err-advance.ensures.err) (ap (λ (w : Recorded). w.log) c.in_err-advance.ensures.err))

pub loop-ask-smaller : goal.loop-ask-smaller
loop-ask-smaller g c =
    let config = c.loop-ask.invariant.config in
    let told = rw c.in-Some.is at c.in_ok-ask.ensures.asked in
    let step = subst (λ (x : Config). Step x (stand_of c.loop-ask.self) (Ask c.args.now) (Asked c.in-Some.ask c.args.now) (stand_of c.ask_once.new.self)) config told.0 in
    let heard =
    subst (λ (x : Config). Step x (stand_of c.ask_once.new.self) (Deliver c.in-Some.ask c.args.now) c.in_ok-advance.ensures.step.0 (stand_of c.advance.new.self)) (c.in_ok-ask.ensures.config ∙ config) c.in_ok-advance.ensures.step.1 in
    let logged = c.keeps_log.ensures.logged in
    let laws : Laws =
    record {
      media = c.hearing_is_determined.ensures.media;
      repair = c.hearing_is_determined.ensures.repair;
      nack = c.feedback_is_determined.ensures.alone;
      any = c.feedback_is_determined.ensures.any;
      decided = c.compound_is_determined.ensures.decided;
      one_nack = c.nack_is_determined.ensures.one_nack;
    } in
    ask_falls c.hearing_is_determined.ensures.any laws c.args.self.now.config c.keeps_log.ensures.limits (reverse logged.events) c.args.self.now.log (stand_of c.args.self.now) logged.answers
    c.args.now c.in-Some.ask c.in_ok-advance.ensures.step.0 c.loop-ask.self.log (stand_of c.loop-ask.self) (stand_of c.ask_once.new.self) (stand_of c.advance.new.self) c.loop-ask.invariant.goes_on step heard

pub loop-ask-preserved : goal.loop-ask-preserved
loop-ask-preserved g c =
    let config = c.loop-ask.invariant.config in
    let told = rw c.in-Some.is at c.in_ok-ask.ensures.asked in
    let step = subst (λ (x : Config). Step x (stand_of c.loop-ask.self) (Ask c.args.now) (Asked c.in-Some.ask c.args.now) (stand_of c.ask_once.new.self)) config told.0 in
    let heard =
    subst (λ (x : Config). Step x (stand_of c.ask_once.new.self) (Deliver c.in-Some.ask c.args.now) c.in_ok-advance.ensures.step.0 (stand_of c.advance.new.self)) (c.in_ok-ask.ensures.config ∙ config) c.in_ok-advance.ensures.step.1 in
    let falls = loop-ask-smaller g c in
    let a = one_longer c.loop-ask.self.log c.ask_once.new.self.log (Asked c.in-Some.ask c.args.now) told.1 in
    let b = one_longer c.ask_once.new.self.log c.advance.new.self.log c.in_ok-advance.ensures.step.0 c.in_ok-advance.ensures.step.2 in
    let was = c.loop-ask.invariant.told in
    let counted = c.loop-ask.invariant.counted in
    record {
      config = c.in_ok-advance.ensures.config ∙ c.in_ok-ask.ensures.config ∙ config;
      goes_on = asks_heard c.args.self.now.config c.args.now c.in-Some.ask c.in_ok-advance.ensures.step.0 (stand_of c.args.self.now) (stand_of c.loop-ask.self) (stand_of c.ask_once.new.self) (stand_of c.advance.new.self)
          c.args.self.now.log c.loop-ask.self.log c.ask_once.new.self.log c.advance.new.self.log c.loop-ask.invariant.goes_on step told.1 heard c.in_ok-advance.ensures.step.2;
      told = omega (arith, a, b, was);
      counted = omega (arith, falls, counted);
    }

pub loop-repair-init : goal.loop-repair-init
loop-repair-init g c =
    let config = c.loop-ask.invariant.config in
    let told = at_none c.in_ok-ask.field-0 _ _ c.in_default.not-Some c.in_ok-ask.ensures.asked in
    let step = subst (λ (x : Config). Step x (stand_of c.loop-ask.self) (Ask c.args.now) (NoAsk c.args.now) (stand_of c.ask_once.new.self)) config told.0 in
    let a = one_longer c.loop-ask.self.log c.ask_once.new.self.log (NoAsk c.args.now) told.1 in
    let was = c.loop-ask.invariant.told in
    let counted = c.loop-ask.invariant.counted in
    let few = marks_left_most c.args.self.now.config (stand_of c.ask_once.new.self).sender in
    record {
      config = c.in_ok-ask.ensures.config ∙ config;
      goes_on = asks_end c.args.self.now.config c.args.now (stand_of c.args.self.now) (stand_of c.loop-ask.self) (stand_of c.ask_once.new.self) c.args.self.now.log c.loop-ask.self.log c.ask_once.new.self.log c.loop-ask.invariant.goes_on step told.1;
      told = omega (arith, a, was);
      counted = omega (arith, counted, few);
    }

pub returns-in_err-repair-clause-err : goal.returns-in_err-repair-clause-err
returns-in_err-repair-clause-err g c =
    on_err c.from_residual-in_err-repair.result _
    (goes_same c.args.self.now.config (IsRoundBegun c.args.now) (stand_of c.args.self.now) (stand_of c.loop-repair.self) (stand_of c.repair_once.new.self) c.args.self.now.log c.loop-repair.self.log c.repair_once.new.self.log
    (goes_as c.args.self.now.config (IsRepairing c.args.now) (IsRoundBegun c.args.now) (stand_of c.args.self.now) (stand_of c.loop-repair.self) c.args.self.now.log c.loop-repair.self.log (repairing_begun c.args.now) c.loop-repair.invariant.goes_on)
    (ap stand_of c.in_err-repair.ensures.err) (ap (λ (w : Recorded). w.log) c.in_err-repair.ensures.err))

pub returns-in_err-advance-2-clause-err : goal.returns-in_err-advance-2-clause-err
returns-in_err-advance-2-clause-err g c =
    let config = c.loop-repair.invariant.config in
    let told = rw c.in-Some-2.is at c.in_ok-repair.ensures.repaired in
    let step = subst (λ (x : Config). Step x (stand_of c.loop-repair.self) Retransmit (Repaired told.0 c.in-Some-2.repair) (stand_of c.repair_once.new.self)) config told.1 in
    on_err c.from_residual-in_err-advance-2.result _
    (goes_same c.args.self.now.config (IsRoundBegun c.args.now) (stand_of c.args.self.now) (stand_of c.repair_once.new.self) (stand_of c.advance-in-Some-2.new.self) c.args.self.now.log c.repair_once.new.self.log c.advance-in-Some-2.new.self.log
    (goes_on c.args.self.now.config (IsRepairing c.args.now) (IsRoundBegun c.args.now) (stand_of c.args.self.now) (stand_of c.loop-repair.self) (stand_of c.repair_once.new.self) c.args.self.now.log c.loop-repair.self.log c.repair_once.new.self.log Retransmit (Repaired told.0 c.in-Some-2.repair) c.loop-repair.invariant.goes_on step told.2 (repair_begun c.args.now told.0 c.in-Some-2.repair))
    (ap stand_of c.in_err-advance-2.ensures.err) (ap (λ (w : Recorded). w.log) c.in_err-advance-2.ensures.err))

pub loop-repair-smaller : goal.loop-repair-smaller
loop-repair-smaller g c =
    let config = c.loop-repair.invariant.config in
    let told = rw c.in-Some-2.is at c.in_ok-repair.ensures.repaired in
    let step = subst (λ (x : Config). Step x (stand_of c.loop-repair.self) Retransmit (Repaired told.0 c.in-Some-2.repair) (stand_of c.repair_once.new.self)) config told.1 in
    let heard =
    subst (λ (x : Config). Step x (stand_of c.repair_once.new.self) (Deliver c.in-Some-2.repair c.args.now) c.in_ok-advance-2.ensures.step.0 (stand_of c.advance-in-Some-2.new.self)) (c.in_ok-repair.ensures.config ∙ config) c.in_ok-advance-2.ensures.step.1 in
    let logged = c.keeps_log.ensures.logged in
    let laws : Laws =
    record {
      media = c.hearing_is_determined.ensures.media;
      repair = c.hearing_is_determined.ensures.repair;
      nack = c.feedback_is_determined.ensures.alone;
      any = c.feedback_is_determined.ensures.any;
      decided = c.compound_is_determined.ensures.decided;
      one_nack = c.nack_is_determined.ensures.one_nack;
    } in
    repair_falls c.hearing_is_determined.ensures.any laws c.args.self.now.config c.keeps_log.ensures.limits (reverse logged.events) c.args.self.now.log (stand_of c.args.self.now) logged.answers
    c.args.now told.0 c.in-Some-2.repair c.in_ok-advance-2.ensures.step.0 c.loop-repair.self.log (stand_of c.loop-repair.self) (stand_of c.repair_once.new.self) (stand_of c.advance-in-Some-2.new.self) c.loop-repair.invariant.goes_on step heard

pub loop-repair-preserved : goal.loop-repair-preserved
loop-repair-preserved g c =
    let config = c.loop-repair.invariant.config in
    let told = rw c.in-Some-2.is at c.in_ok-repair.ensures.repaired in
    let step = subst (λ (x : Config). Step x (stand_of c.loop-repair.self) Retransmit (Repaired told.0 c.in-Some-2.repair) (stand_of c.repair_once.new.self)) config told.1 in
    let heard =
    subst (λ (x : Config). Step x (stand_of c.repair_once.new.self) (Deliver c.in-Some-2.repair c.args.now) c.in_ok-advance-2.ensures.step.0 (stand_of c.advance-in-Some-2.new.self)) (c.in_ok-repair.ensures.config ∙ config) c.in_ok-advance-2.ensures.step.1 in
    let falls = loop-repair-smaller g c in
    let a = one_longer c.loop-repair.self.log c.repair_once.new.self.log (Repaired told.0 c.in-Some-2.repair) told.2 in
    let b = one_longer c.repair_once.new.self.log c.advance-in-Some-2.new.self.log c.in_ok-advance-2.ensures.step.0 c.in_ok-advance-2.ensures.step.2 in
    let was = c.loop-repair.invariant.told in
    let counted = c.loop-repair.invariant.counted in
    record {
      config = c.in_ok-advance-2.ensures.config ∙ c.in_ok-repair.ensures.config ∙ config;
      goes_on = repairs_heard c.args.self.now.config c.args.now told.0 c.in-Some-2.repair c.in_ok-advance-2.ensures.step.0 (stand_of c.args.self.now) (stand_of c.loop-repair.self) (stand_of c.repair_once.new.self) (stand_of c.advance-in-Some-2.new.self)
          c.args.self.now.log c.loop-repair.self.log c.repair_once.new.self.log c.advance-in-Some-2.new.self.log c.loop-repair.invariant.goes_on step told.2 heard c.in_ok-advance-2.ensures.step.2;
      told = omega (arith, a, b, was);
      counted = omega (arith, falls, counted);
    }

pub returns-clause-round : goal.returns-clause-round
returns-clause-round g c =
    let config = c.loop-repair.invariant.config in
    let told = at_none c.in_ok-repair.field-0 _ _ c.in_default-2.not-Some c.in_ok-repair.ensures.repaired in
    let step = subst (λ (x : Config). Step x (stand_of c.loop-repair.self) Retransmit NoRepair (stand_of c.repair_once.new.self)) config told.0 in
    repairs_end c.args.self.now.config c.args.now (stand_of c.args.self.now) (stand_of c.loop-repair.self) (stand_of c.repair_once.new.self) c.args.self.now.log c.loop-repair.self.log c.repair_once.new.self.log c.loop-repair.invariant.goes_on step told.1

pub returns-clause-mended : goal.returns-clause-mended
returns-clause-mended g c place close honest marks mendable =
    let on = returns-clause-round g c in
    let logged = c.keeps_log.ensures.logged in
    subst (λ (xs : List Entry). IsMended c.args.self.now.config xs (stand_of c.repair_once.new.self) place × IsClose xs)
    (sym (back c.args.self.now.log c.repair_once.new.self.log on.added on.log_is))
    (c.rounds_mend.ensures.mended c.args.self.now.config c.keeps_log.ensures.limits (reverse logged.events) (reverse c.args.self.now.log) (stand_of c.args.self.now) logged.answers close honest marks c.args.now on.events on.added (stand_of c.repair_once.new.self) on.kind on.adds place mendable)

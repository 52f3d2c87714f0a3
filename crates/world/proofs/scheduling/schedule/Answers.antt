use Rattle.std.proofs.Common.{◌≡◌, ◌+◌, ◌-◌, suc, sym, ◌∙◌, arith}
use Rattle.std.proofs.lemmas.Grind.{common_steps}
use Rattle.world.proofs.ScheduleSteps.{schedule-step, schedule-end, after_words-step}
use Rattle.world.proofs.scheduling.schedule.Goals as goal

pub loop-sent-preserved : goal.loop-sent-preserved
loop-sent-preserved g c =
    let one : c.args.packets - c.loop-sent.sent ≡ suc (c.args.packets - (c.loop-sent.sent + 1)) = omega arith in
    record {
      whole = schedule-step _ _ _ _ _ _ _ _ _ _ one c.schedule_one.ensures.drawn c.schedule_one.ensures.appended ∙ c.loop-sent.invariant.whole;
      drawn = after_words-step _ _ _ _ one c.schedule_one.ensures.drawn ∙ c.loop-sent.invariant.drawn;
      room = grind (arith, common_steps);
    }

pub returns-clause-appended : goal.returns-clause-appended
returns-clause-appended g c = sym (schedule-end _ _ _ _ _ _ (omega arith)) ∙ c.loop-sent.invariant.whole

use Rattle.std.proofs.Common.{List, reverse, subst, arith}
use Rattle.std.proofs.lemmas.List.{take_all}
use Rattle.world.specs.declared.event.Event.{Event}
use Rattle.world.specs.Answers.{Answers}
use Rattle.world.specs.World.{stand_of}
use Rattle.world.proofs.world.run.Goals as goal

pub returns-clause-answers : goal.returns-clause-answers
returns-clause-answers g c =
    subst (λ (events : List Event). Answers c.args.config.now (reverse events) (reverse c.loop-event.world.log) (stand_of c.loop-event.world))
    (take_all c.loop-event.event-index c.args.events.now (omega (arith, c.loop-event-test.false))) c.loop-event.invariant.3

pub returns-clause-promises : goal.returns-clause-promises
returns-clause-promises g c =
    c.logs_keep_promises.ensures _ c.limits.ensures _ _ (record { events = c.args.events.now; answers = returns-clause-answers g c })

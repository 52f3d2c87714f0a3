use Rattle.std.proofs.Common.{◌∙◌, reverse, sym, ap, subst}
use Rattle.std.proofs.lemmas.List.{reverse-reverse}
use Rattle.world.specs.World.{stand_of}
use Rattle.world.specs.Answers.{Answers}
use Rattle.world.specs.Config.{Config}
use Rattle.world.proofs.laws.keeping_makes_no_difference.Goals as goal

pub returns : goal.returns
returns g c = λ same events one other.
    let a = c.args.one.now in
    let b = c.args.other.now in
    let other_too = subst (λ (x : Config). Answers x events (reverse b.log) (stand_of b)) (sym same) other in
    let logs = c.answers_are_determined.ensures.log a.config events (reverse a.log) (reverse b.log) (stand_of a) (stand_of b) one other_too in (
      sym (reverse-reverse a.log) ∙ ap reverse logs ∙ reverse-reverse b.log,
      c.answers_are_determined.ensures.wire a.config events (reverse a.log) (reverse b.log) (stand_of a) (stand_of b) one other_too,
      c.answers_are_determined.ensures.end a.config events (reverse a.log) (reverse b.log) (stand_of a) (stand_of b) one other_too,
    )

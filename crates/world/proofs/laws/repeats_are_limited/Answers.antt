use Rattle.world.proofs.Repeats.{counted}
use Rattle.world.proofs.laws.repeats_are_limited.Goals as goal

pub returns : goal.returns
returns c = λ config events past end answers place. (counted c.feedback_is_determined.ensures.any c.compound_is_determined.ensures.decided config events past end answers).each place

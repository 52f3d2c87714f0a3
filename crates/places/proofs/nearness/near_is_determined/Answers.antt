use Rattle.places.proofs.NearPlace.{some_answer, near_not_far, near_not_past_end, far_not_past_end}
use Rattle.places.proofs.nearness.near_is_determined.Goals as goal

pub returns-clause-some : goal.returns-clause-some
returns-clause-some c = some_answer

pub returns-clause-near_not_far : goal.returns-clause-near_not_far
returns-clause-near_not_far c = near_not_far

pub returns-clause-near_not_past_end : goal.returns-clause-near_not_past_end
returns-clause-near_not_past_end c = near_not_past_end

pub returns-clause-far_not_past_end : goal.returns-clause-far_not_past_end
returns-clause-far_not_past_end c = far_not_past_end

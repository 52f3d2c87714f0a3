use Rattle.receiver.proofs.Beginning.{started_so}
use Rattle.receiver.proofs.laws.beginning_is_a_start.Goals as goal

pub returns : goal.returns
returns c = λ room seq now content begun answer new some fits begins takes.
    started_so c.near_is_determined.ensures.one c.near_is_determined.ensures.near_not_far c.near_is_determined.ensures.near_not_past_end
    room seq now content begun answer new some fits begins takes

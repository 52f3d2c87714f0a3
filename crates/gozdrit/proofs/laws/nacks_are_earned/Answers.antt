use Rattle.gozdrit.proofs.Copies.{asked_where_one_has_room, earned_before}
use Rattle.gozdrit.proofs.laws.nacks_are_earned.Goals as goal

pub returns-clause-within : goal.returns-clause-within
returns-clause-within c = earned_before

pub returns-clause-asked : goal.returns-clause-asked
returns-clause-asked c = asked_where_one_has_room

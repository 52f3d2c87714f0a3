use Rattle.liveness.proofs.Sources.{told_is_among}
use Rattle.liveness.proofs.laws.the_living_answered.Goals as goal

pub returns-clause-told : goal.returns-clause-told
returns-clause-told c = told_is_among

use Rattle.stores.proofs.Determined.{one_put}
use Rattle.stores.proofs.laws.answers_are_determined.Goals as goal

pub returns-clause-put : goal.returns-clause-put
returns-clause-put c = one_put

use Rattle.payload_types.proofs.Back.{are_one, there_and_back}
use Rattle.payload_types.proofs.laws.no_type_is_lost.Goals as goal

pub returns-clause-back : goal.returns-clause-back
returns-clause-back c = there_and_back

pub returns-clause-one : goal.returns-clause-one
returns-clause-one c = are_one

use Rattle.timing.proofs.Resends.{behind, doubled}
use Rattle.timing.proofs.laws.answers_are_waited_for.Goals as goal

pub returns-clause-doubled : goal.returns-clause-doubled
returns-clause-doubled c = doubled

pub returns-clause-behind : goal.returns-clause-behind
returns-clause-behind c = behind

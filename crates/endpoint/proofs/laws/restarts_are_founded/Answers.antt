use Rattle.endpoint.proofs.Silences.{founded}
use Rattle.endpoint.proofs.laws.restarts_are_founded.Goals as goal

pub returns : goal.returns
returns c = founded

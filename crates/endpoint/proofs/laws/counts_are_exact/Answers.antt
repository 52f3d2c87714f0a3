use Rattle.endpoint.proofs.Tallied.{counted}
use Rattle.endpoint.proofs.laws.counts_are_exact.Goals as goal

pub returns : goal.returns
returns c = counted

use Rattle.endpoint.proofs.SendTallied.{counted}
use Rattle.endpoint.proofs.laws.sending_counts_are_exact.Goals as goal

pub returns : goal.returns
returns c = counted

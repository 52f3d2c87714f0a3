use Rattle.relays.proofs.Keeping.{in_a_second}
use Rattle.relays.proofs.laws.pace_is_kept.Goals as goal

pub returns-clause-second : goal.returns-clause-second
returns-clause-second c = in_a_second

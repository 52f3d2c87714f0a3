use Rattle.relays.proofs.Holes.{ahead, behind}
use Rattle.relays.proofs.laws.jumps_are_holes.Goals as goal

pub returns-clause-ahead : goal.returns-clause-ahead
returns-clause-ahead c = ahead

pub returns-clause-behind : goal.returns-clause-behind
returns-clause-behind c = behind

use Rattle.gozdrit.proofs.Copies.{leaves_once, second_copy}
use Rattle.gozdrit.proofs.laws.nacks_leave_twice.Goals as goal

pub returns-clause-second : goal.returns-clause-second
returns-clause-second c = second_copy

pub returns-clause-once : goal.returns-clause-once
returns-clause-once c = leaves_once

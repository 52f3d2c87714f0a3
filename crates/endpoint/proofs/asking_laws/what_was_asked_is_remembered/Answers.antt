use Rattle.std.proofs.Common.{arith}
use Rattle.endpoint.proofs.AskingRun.{knows}
use Rattle.endpoint.proofs.Remembered.{newest}
use Rattle.endpoint.proofs.asking_laws.what_was_asked_is_remembered.Goals as goal

pub returns : goal.returns
returns g =
    record {
      remembers = λ c capacity p some events a runs q. knows capacity some c p events a runs q;
      newest = λ capacity places before q among alone. newest capacity q places before among alone;
      found = λ highest q below near. omega (arith, below, near);
    }

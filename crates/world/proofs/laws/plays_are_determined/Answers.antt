use Rattle.world.proofs.Played.{one_play}
use Rattle.world.proofs.laws.plays_are_determined.Goals as goal

pub returns : goal.returns
returns c = one_play

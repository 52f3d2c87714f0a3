use Rattle.receiver.proofs.SameWindows.{one_play}
use Rattle.receiver.proofs.laws.playing_is_determined.Goals as goal

pub returns : goal.returns
returns c = λ patience now old r s v w a b. one_play patience now v w old r s a b

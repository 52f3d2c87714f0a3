use Rattle.srtp.proofs.BitMoves.{swap_at}
use Rattle.srtp.proofs.rounds.swap.Goals as goal

pub returns : goal.returns
returns c = λ m lt. swap_at c.args.word c.args.mask c.args.by m lt c.requires.apart

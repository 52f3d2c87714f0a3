use Rattle.srtp.proofs.Mixing.{shift_at}
use Rattle.srtp.proofs.rounds.shift.Goals as goal

pub returns : goal.returns
returns c = λ m. shift_at c.args.word _ _ m c.swap.ensures c.swap-2.ensures

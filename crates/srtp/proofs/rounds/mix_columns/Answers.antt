use Rattle.srtp.proofs.Mixing.{columns_mixed}
use Rattle.srtp.proofs.rounds.mix_columns.Goals as goal

pub returns : goal.returns
returns c =
    columns_mixed c.args.words.now _ _ _ _ _ _ c.turn-next.ensures c.sum-both.ensures c.times_x.ensures c.sum.ensures
    c.turn.ensures c.sum-2.ensures

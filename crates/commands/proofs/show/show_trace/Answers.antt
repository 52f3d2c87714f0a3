use Rattle.std.proofs.Common.{rules}
use Rattle.commands.proofs.ShowLemmas.{flushed, read_in_vain, read_on}
use Rattle.commands.proofs.show.show_trace.Goals as goal

pub returns-in-Err-show_piece-clause-stopped : goal.returns-in-Err-show_piece-clause-stopped
returns-in-Err-show_piece-clause-stopped g c =
    let so = flushed _ _ _ _ _ _ _ c.flush.ensures.keeps c.loop.invariant.3 in
    read_in_vain c.in-Err-show_piece.fault _ _ _ _ _ _ _ _ _ c.in-Ok.ensures.ok c.in-Err-show_piece.ensures.err so

pub loop-preserved : goal.loop-preserved
loop-preserved g c =
    let so = flushed _ _ _ _ _ _ _ c.flush.ensures.keeps c.loop.invariant.3 in (
      search rules,
      search rules,
      search rules,
      read_on _ _ _ _ _ _ _ _ _ _ _ c.in-Ok.ensures.ok c.in-Ok-show_piece.ensures.ok so,
    )

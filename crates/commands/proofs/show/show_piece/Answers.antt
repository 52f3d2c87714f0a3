use Rattle.std.proofs.Common.{rules, arith}
use Rattle.std.proofs.lemmas.List.{length-drop, take_rest}
use Rattle.commands.proofs.ShowLemmas.{goes_on, stops_after}
use Rattle.commands.proofs.show.show_piece.Goals as goal

pub returns-in-Err-clause-err : goal.returns-in-Err-clause-err
returns-in-Err-clause-err g c =
    let so = c.loop-done.invariant in
    let stops = rw (take_rest c.args.piece.now c.loop-done.done) at c.in-Err.ensures.err in
    stops_after c.in-Err.fault _ _ _ _ _ _ _ c.args.piece.now c.loop-done.done so.3 stops

pub loop-done-preserved : goal.loop-done-preserved
loop-done-preserved g c =
    let so = c.loop-done.invariant in
    let goes = rw (take_rest c.args.piece.now c.loop-done.done) at c.in-Ok.ensures.ok in
    let taken = rw (take_rest c.args.piece.now c.loop-done.done) at c.in-Ok.ensures.taken.1 in
    let left = length-drop c.loop-done.done c.args.piece.now in
    (omega arith, search rules, search rules, goes_on _ _ _ _ _ _ _ _ _ c.args.piece.now c.loop-done.done c.in-Ok.taken so.3 goes)

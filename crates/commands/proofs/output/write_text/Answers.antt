use Rattle.std.proofs.Common.{arith}
use Rattle.std.proofs.lemmas.List.{take_rest, length-drop}
use Rattle.commands.proofs.KnownLemmas.{wrote_more, Appends-kept}
use Rattle.commands.proofs.output.write_text.Goals as goal
use Rattle.commands.proofs.output.write_text.Goals.{in-Ok, in-Err+else-ne}

pub loop-preserved : goal.loop-preserved
loop-preserved g c = elim c.match-write.branch [
  | in-Ok w ↦
      let bound = rw (take_rest c.args.text.now c.loop.done, length-drop) at w.in-Ok.ensures.bound in
      record {
        within = omega (arith, bound, c.loop.invariant.within);
        wrote = rw w.done-is (wrote_more _ _ _ c.args.text.now c.loop.done w.in-Ok.n c.loop.invariant.wrote w.in-Ok.ensures.bytes);
      }
  | in-Err+else-ne w ↦ record {
    within = rw w.done-is c.loop.invariant.within;
    wrote = rw w.done-is (Appends-kept _ _ _ _ c.loop.invariant.wrote w.in-Err.ensures.bytes);
  }
]

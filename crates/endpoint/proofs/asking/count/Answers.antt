use Rattle.std.proofs.Common.{arith}
use Rattle.std.proofs.lemmas.Grind.{common_steps}
use Rattle.endpoint.proofs.PairCounts.{count_more}
use Rattle.endpoint.proofs.asking.count.Goals as goal

pub loop-pair-preserved : goal.loop-pair-preserved
loop-pair-preserved c =
    let more = count_more c.loop-pair.yielded c.in-Some.pair in
    let add = c.saturating_add-count.ensures in
    let counted = c.loop-pair.invariant.counted in
    let named = c.count.ensures in
    let wide = c.from.ensures in
    record {
      all = grind (arith, common_steps);
      counted = omega (arith, more, add, counted, named, wide);
    }

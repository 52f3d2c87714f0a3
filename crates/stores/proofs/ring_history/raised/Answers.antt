use Rattle.std.proofs.Common.{sym, ◌∙◌, arith}
use Rattle.stores.proofs.BitCounts.{no_member}
use Rattle.stores.proofs.ring_history.raised.Goals as goal

pub returns-then-count-eq0-clause-low : goal.returns-then-count-eq0-clause-low
returns-then-count-eq0-clause-low c =
    let marks = c.args.marks.now in
    let bound = c.bound.ensures in
    λ p below. no_member marks.words.items marks.front p (sym c.count.ensures ∙ c.if-count-eq0.true) marks.within (omega arith)

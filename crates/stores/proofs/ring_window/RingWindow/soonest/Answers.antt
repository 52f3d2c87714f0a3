use Rattle.std.proofs.Common.{length, None, sym, ◌∙◌, arith}
use Rattle.stores.proofs.BitCounts.{no_member}
use Rattle.stores.proofs.Soonest.{soonest_first, soonest_skip}
use Rattle.stores.proofs.ring_window.RingWindow.soonest.Goals as goal

-- no slot is missing
pub returns-then-count-eq0 : goal.returns-then-count-eq0
returns-then-count-eq0 c =
    let w = c.args.self.now in
    let slots = w.slots.items in
    let room = w.room in
    let wide = w.wide in
    soonest_skip c.args.rule None slots 0 (length slots)
    (λ p above below. sym (w.index.0 p (omega arith)) ∙ no_member w.missing.words.items w.missing.front p (sym c.count.ensures ∙ c.if-count-eq0.true) w.missing.within (omega arith))
    (soonest_first c.args.rule slots)

use Rattle.std.proofs.Common.{sym, ◌∙◌}
use Rattle.stores.proofs.Counting.{count_of_slots}
use Rattle.stores.proofs.ring_window.RingWindowWindow.missing.Goals as goal

pub returns : goal.returns
returns c =
    let before = c.args.self.now in
    c.count.ensures ∙ before.index.1 ∙ sym (count_of_slots before.cursor before.slots.items before.slots.capacity before.unstarted)

use Rattle.stores.proofs.CellSteps.{empty_slots}
use Rattle.stores.proofs.slots.Slots.new.Goals as goal

pub invariant_of-result : goal.invariant_of-result
invariant_of-result c =
    empty_slots c.in_ok-cells.cells c.in_ok-contents.contents.items c.in_ok-free.free.items c.args.capacity _ _ c.in_ok-cells.ensures c.in_ok-contents.ensures.items c.in_ok-free.ensures.items c.requires
    c.in_ok-contents.ensures.capacity c.in_ok-free.ensures.capacity

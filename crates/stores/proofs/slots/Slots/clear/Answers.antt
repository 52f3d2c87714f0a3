use Rattle.std.proofs.Common.{arith}
use Rattle.stores.proofs.CellSteps.{empty_slots}
use Rattle.stores.proofs.slots.Slots.clear.Goals as goal

pub invariant_of-self : goal.invariant_of-self
invariant_of-self c =
    let before = c.self.invariant in
    let enough = before.contents_room in
    let enough_free = before.free_room in
    let same = c.clear-2.ensures.capacity in
    let same_free = c.clear-3.ensures.capacity in
    empty_slots c.clear.new.self c.clear-2.new.self.items c.clear-3.new.self.items c.self.inside.cells.capacity _ _ c.clear.ensures c.clear-2.ensures.items c.clear-3.ensures.items before.limit
    (omega (arith, enough, same)) (omega (arith, enough_free, same_free))

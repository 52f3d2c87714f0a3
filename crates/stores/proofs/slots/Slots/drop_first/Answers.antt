use Rattle.std.proofs.Common.{arith}
use Rattle.stores.proofs.CellSteps.{first_gone, room_to_free}
use Rattle.stores.proofs.slots.Slots.drop_first.Goals as goal

pub free_first-requires : goal.free_first-requires
free_first-requires c = λ n found.
    let fields = c.self.inside in
    let fewer = room_to_free fields.cells.items fields.contents.items fields.free.items n c.self.invariant.pool found in
    let few = c.self.invariant.few in
    let room = c.self.invariant.free_room in
    omega (arith, fewer, few, room)

pub invariant_of-self : goal.invariant_of-self
invariant_of-self c =
    let fields = c.self.inside in
    first_gone fields.cells c.drop_first.new.ring fields.contents.items fields.free.items _ _ c.args.self.now c.self.invariant c.self.view_is c.drop_first.ensures.capacity
    c.free_first.new.free.items _ c.free_first.ensures.free c.free_first.ensures.capacity c.drop_first.ensures.items c.requires

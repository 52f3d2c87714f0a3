use Rattle.std.proofs.Common.{arith}
use Rattle.stores.proofs.Pooled.{room_to_free_many}
use Rattle.stores.proofs.CellSteps.{cells_gone, cells_gone_view}
use Rattle.stores.proofs.slots.Slots.drop_many.Goals as goal

pub free_many-requires-clause-room : goal.free_many-requires-clause-room
free_many-requires-clause-room c =
    let fields = c.self.inside in
    let fewer = room_to_free_many fields.cells.items fields.contents.items fields.free.items c.args.count c.self.invariant.pool in
    let few = c.self.invariant.few in
    let room = c.self.invariant.free_room in
    omega (arith, fewer, few, room)

pub invariant_of-self : goal.invariant_of-self
invariant_of-self c =
    let fields = c.self.inside in
    cells_gone fields.cells c.drop_many.new.ring fields.contents.items fields.free.items _ _ c.args.self.now c.self.invariant c.self.view_is c.drop_many.ensures.capacity
    c.args.count c.free_many.new.free.items _ c.free_many.ensures.free c.free_many.ensures.capacity c.drop_many.ensures.items

pub returns : goal.returns
returns c =
    let fields = c.self.inside in
    cells_gone_view fields.cells c.drop_many.new.ring fields.contents.items fields.free.items _ _ c.args.self.now c.self.invariant c.self.view_is c.drop_many.ensures.capacity c.args.count c.drop_many.ensures.items

use Rattle.std.proofs.Common.{length, sym, ap, ◌∙◌, arith}
use Rattle.circular_buffer.specs.Buffer.{Buffer}
use Rattle.stores.specs.declared.slot.Slot.{Slot}
use Rattle.stores.proofs.Pooled.{held_le}
use Rattle.stores.proofs.Filling.{slot_count, all_used, grown_known, held_last}
use Rattle.stores.proofs.slots.Slots.append_held.Goals as goal

pub grow-requires-clause-room : goal.grow-requires-clause-room
grow-requires-clause-room c none =
    let fields = c.self.inside in
    let held = c.self.invariant in
    let used = all_used fields.cells.items fields.contents.items fields.free.items held.pool none in
    let most = held_le fields.cells.items in
    let count = sym (slot_count fields.contents.items fields.cells.items) ∙ ap (λ (b : Buffer Slot). length b.items) c.self.view_is in
    let size = ap (λ (b : Buffer Slot). b.capacity) c.self.view_is in
    let fits = c.requires in
    let room = held.contents_room in
    omega (arith, used, most, count, size, fits, room)

pub grow-requires-clause-limit : goal.grow-requires-clause-limit
grow-requires-clause-limit c none =
    let fields = c.self.inside in
    let held = c.self.invariant in
    let used = all_used fields.cells.items fields.contents.items fields.free.items held.pool none in
    let most = held_le fields.cells.items in
    let count = sym (slot_count fields.contents.items fields.cells.items) ∙ ap (λ (b : Buffer Slot). length b.items) c.self.view_is in
    let size = ap (λ (b : Buffer Slot). b.capacity) c.self.view_is in
    let fits = c.requires in
    let limit = held.limit in
    omega (arith, used, most, count, size, fits, limit)

pub fill_free-number-requires-clause-known : goal.fill_free-number-requires-clause-known
fill_free-number-requires-clause-known c =
    let fields = c.self.inside in
    grown_known fields.cells.items fields.contents.items c.grow.new.contents.items fields.free.items c.grow.new.free.items c.self.invariant.pool c.grow.ensures.contents c.grow.ensures.free

pub invariant_of-self : goal.invariant_of-self
invariant_of-self c =
    let fields = c.self.inside in
    (held_last fields.cells c.append.new.ring fields.contents.items c.grow.new.contents.items c.fill_free-number.new.contents.items fields.free.items c.grow.new.free.items c.fill_free-number.new.free.items
    _ _ _ _ c.fill_free-number.result c.args.carried.now c.args.self.now c.self.invariant c.self.view_is c.grow.ensures.contents c.grow.ensures.free c.fill_free-number.ensures.number c.fill_free-number.ensures.contents
    c.append.ensures.capacity (c.fill_free-number.ensures.contents_capacity ∙ c.grow.ensures.contents_capacity) (c.fill_free-number.ensures.free_capacity ∙ c.grow.ensures.free_capacity) c.append.ensures.items c.requires).are

pub returns : goal.returns
returns c =
    let fields = c.self.inside in
    (held_last fields.cells c.append.new.ring fields.contents.items c.grow.new.contents.items c.fill_free-number.new.contents.items fields.free.items c.grow.new.free.items c.fill_free-number.new.free.items
    _ _ _ _ c.fill_free-number.result c.args.carried.now c.args.self.now c.self.invariant c.self.view_is c.grow.ensures.contents c.grow.ensures.free c.fill_free-number.ensures.number c.fill_free-number.ensures.contents
    c.append.ensures.capacity (c.fill_free-number.ensures.contents_capacity ∙ c.grow.ensures.contents_capacity) (c.fill_free-number.ensures.free_capacity ∙ c.grow.ensures.free_capacity) c.append.ensures.items c.requires).view

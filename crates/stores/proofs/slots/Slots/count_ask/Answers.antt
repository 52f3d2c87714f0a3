use Rattle.std.proofs.Common.{◌≡◌, ap, refl, Some, slice_get, slice_set, rules}
use Rattle.circular_buffer.specs.Buffer.{buffer}
use Rattle.stores.proofs.CellSteps.{cell_at, cell_asked, cell_can_be_asked}
use Rattle.stores.proofs.slots.Slots.count_ask.Goals as goal

pub unwrap-requires : goal.unwrap-requires
unwrap-requires c =
    let fields = c.self.inside in
    let there = (cell_at fields.cells fields.contents.items c.args.self.now c.args.index c.self.view_is c.requires).found in
    search rules

pub ask_cell-requires : goal.ask_cell-requires
ask_cell-requires c =
    let fields = c.self.inside in
    let found : slice_get fields.cells.items c.args.index ≡ Some c.unwrap.result.now = search rules in
    cell_can_be_asked fields.cells fields.cells fields.contents.items fields.free.items _ _ c.args.self.now c.self.invariant c.self.view_is refl c.args.index c.unwrap.result.now found c.requires

pub invariant_of-self : goal.invariant_of-self
invariant_of-self c =
    let fields = c.self.inside in
    let found : slice_get fields.cells.items c.args.index ≡ Some c.unwrap.result.now = search rules in
    (cell_asked fields.cells (buffer (slice_set fields.cells.items c.args.index c.ask_cell.new.cell) fields.cells.capacity) fields.contents.items fields.free.items _ _ c.args.self.now c.self.invariant c.self.view_is refl
    c.args.index c.args.now c.unwrap.result.now found (cell_can_be_asked fields.cells fields.cells fields.contents.items fields.free.items _ _ c.args.self.now c.self.invariant c.self.view_is refl c.args.index c.unwrap.result.now found c.requires)
    (ap (λ x. slice_set fields.cells.items c.args.index x) c.ask_cell.ensures)).are

pub returns : goal.returns
returns c =
    let fields = c.self.inside in
    let found : slice_get fields.cells.items c.args.index ≡ Some c.unwrap.result.now = search rules in
    (cell_asked fields.cells (buffer (slice_set fields.cells.items c.args.index c.ask_cell.new.cell) fields.cells.capacity) fields.contents.items fields.free.items _ _ c.args.self.now c.self.invariant c.self.view_is refl
    c.args.index c.args.now c.unwrap.result.now found (cell_can_be_asked fields.cells fields.cells fields.contents.items fields.free.items _ _ c.args.self.now c.self.invariant c.self.view_is refl c.args.index c.unwrap.result.now found c.requires)
    (ap (λ x. slice_set fields.cells.items c.args.index x) c.ask_cell.ensures)).view

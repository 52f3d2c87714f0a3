use Rattle.std.proofs.Common.{◌≡◌, ◌∙◌, ap, sym, get_or, slice_get, Some, rules, arith}
use Rattle.circular_buffer.specs.Buffer.{Buffer}
use Rattle.rtpwire.specs.declared.content.Content.{Content}
use Rattle.rtpwire.specs.Content.{blank_content}
use Rattle.stores.specs.declared.cell.Cell.{Cell}
use Rattle.stores.specs.declared.slot.Slot.{Slot}
use Rattle.stores.specs.declared.slot.Slot.TheVariants.{Held}
use Rattle.stores.proofs.Pooled.{cell_known}
use Rattle.stores.proofs.CellSteps.{slot_of_cell, read_there}
use Rattle.stores.proofs.slots.Slots.get.Goals as goal

pub index-requires : goal.index-requires
index-requires c =
    let fields = c.self.inside in
    let read : slice_get fields.cells.items c.args.index ≡ Some c.in_ok-number.field-0.now = search rules in
    let found = read ∙ ap (λ (x : Cell). Some x) c.in-Taken.is in
    let known = cell_known fields.cells.items fields.contents.items fields.free.items c.args.index c.in-Taken.number c.self.invariant.pool found in
    omega (arith, known, c.from.ensures)

pub returns-in-Taken : goal.returns-in-Taken
returns-in-Taken c =
    let fields = c.self.inside in
    let read : slice_get fields.cells.items c.args.index ≡ Some c.in_ok-number.field-0.now = search rules in
    let found = read ∙ ap (λ (x : Cell). Some x) c.in-Taken.is in
    let known = cell_known fields.cells.items fields.contents.items fields.free.items c.args.index c.in-Taken.number c.self.invariant.pool found in
    let content : c.index.result.now ≡ get_or fields.contents.items c.in-Taken.number blank_content =
    c.index.ensures ∙ ap (λ n. get_or fields.contents.items n c.index.result.now) c.from.ensures ∙ read_there fields.contents.items c.in-Taken.number c.index.result.now blank_content known in
    ap (λ (x : Content). Some (Held x)) content ∙ sym (slot_of_cell fields.contents.items fields.cells.items c.args.index _ found)
    ∙ ap (λ (b : Buffer Slot). slice_get b.items c.args.index) c.self.view_is

pub returns-in-Unseen : goal.returns-in-Unseen
returns-in-Unseen c =
    let fields = c.self.inside in
    let read : slice_get fields.cells.items c.args.index ≡ Some c.in_ok-number.field-0.now = search rules in
    let found = read ∙ ap (λ (x : Cell). Some x) c.in-Unseen.is in
    sym (slot_of_cell fields.contents.items fields.cells.items c.args.index _ found) ∙ ap (λ (b : Buffer Slot). slice_get b.items c.args.index) c.self.view_is

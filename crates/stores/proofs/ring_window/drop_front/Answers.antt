use Rattle.std.proofs.Common.{◌*◌, ◌∙◌, ap, sym, subst, arith}
use Rattle.stores.specs.Bits.{turned}
use Rattle.circular_buffer.specs.Buffer.{Buffer}
use Rattle.stores.specs.declared.slot.Slot.{Slot}
use Rattle.stores.specs.Index.{IsIndex}
use Rattle.stores.proofs.MissingIndex.{index_shift_by}
use Rattle.stores.specs.Bound.{AreBounds}
use Rattle.stores.proofs.Bounds.{bound_drop}
use Rattle.stores.proofs.ring_window.drop_front.Goals as goal

pub returns-clause-index : goal.returns-clause-index
returns-clause-index c =
    let before = c.args.missing.now in
    let after = c.shift_by.new.self in
    let room = c.requires.room in
    let slots = c.args.slots.now.items in
    let is = index_shift_by before.words.items after.words.items before.front after.front c.args.count slots c.shift_by.ensures.words (omega arith) (omega arith) c.shift_by.ensures.members c.shift_by.ensures.size c.requires.index in
    subst (λ xs. IsIndex after.words.items after.front xs) (sym (ap (λ (b : Buffer Slot). b.items) c.drop_many.ensures)) is

pub returns-clause-bound : goal.returns-clause-bound
returns-clause-bound c = λ rule bound.
    let before = c.args.missing.now in
    let bounds = c.args.bounds.now.items in
    let slots = c.args.slots.now.items in
    let room = c.requires.room in
    let blocks = c.requires.blocks in
    let in_words = before.within in
    let turn = ap (λ n. turned (64 * n) before.front c.args.count) (sym blocks) in
    let is = bound_drop rule bounds before.front c.shift_by.new.self.front c.args.count slots (omega arith) (c.shift_by.ensures.front ∙ turn) (omega arith) (omega arith) bound in
    subst (λ xs. AreBounds rule bounds c.shift_by.new.self.front xs) (sym (ap (λ (b : Buffer Slot). b.items) c.drop_many.ensures)) is

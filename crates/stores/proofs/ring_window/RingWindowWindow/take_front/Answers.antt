use Rattle.std.proofs.Common.{◌*◌, ◌∙◌, ◌≤◌, length, rules, ap, sym, subst, arith}
use Rattle.circular_buffer.specs.Buffer.{Buffer}
use Rattle.stores.specs.declared.slot.Slot.{Slot}
use Rattle.stores.specs.Index.{IsIndex}
use Rattle.stores.proofs.MissingIndex.{index_shift}
use Rattle.stores.specs.Bits.{turned}
use Rattle.stores.specs.Foreseen.{Tells}
use Rattle.stores.specs.Bound.{AreBounds}
use Rattle.stores.proofs.Bounds.{bound_drop}
use Rattle.stores.proofs.ring_window.RingWindowWindow.take_front.Goals as goal

pub invariant_of-self-clause-index : goal.invariant_of-self-clause-index
invariant_of-self-clause-index c =
    let before = c.args.self.now in
    let after = c.shift.new.self in
    let room = before.room in
    let wide = before.wide in
    let is = index_shift before.missing.words.items after.words.items before.missing.front after.front before.slots.items c.shift.ensures.words (omega arith) c.shift.ensures.members c.shift.ensures.size before.index in
    let left = ap (λ (b : Buffer Slot). b.items) c.take_first-slot.ensures.rest in
    subst (λ xs. IsIndex after.words.items after.front xs) (sym left) is

pub invariant_of-self-clause-bound : goal.invariant_of-self-clause-bound
invariant_of-self-clause-bound c =
    let before = c.args.self.now in
    let slots = before.slots.items in
    let room = before.room in
    let wide = before.wide in
    let blocks = before.blocks in
    let in_words = before.missing.within in
    let some : 1 ≤ length slots = search rules in
    let turn = ap (λ n. turned (64 * n) before.missing.front 1) (sym blocks) in
    let is = bound_drop before.rule before.bounds.items before.missing.front c.shift.new.self.front 1 slots (omega arith) (c.shift.ensures.front ∙ turn) (omega arith) some before.bound in
    subst (λ xs. AreBounds before.rule before.bounds.items c.shift.new.self.front xs) (sym (ap (λ (b : Buffer Slot). b.items) c.take_first-slot.ensures.rest)) is

pub invariant_of-self-clause-told : goal.invariant_of-self-clause-told
invariant_of-self-clause-told c = λ answer kept.
    subst (Tells answer) (sym (ap (λ (b : Buffer Slot). b.items) c.take_first-slot.ensures.rest)) (c.without_front-self.ensures c.args.self.now.slots.items c.args.self.now.told answer kept)

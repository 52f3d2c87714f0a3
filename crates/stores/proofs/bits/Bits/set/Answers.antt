use Rattle.std.proofs.Common.{◌≡◌, false, ap, sym, ◌∙◌, arith}
use Rattle.stores.specs.Bits.{is_set, is_member}
use Rattle.stores.proofs.BitCounts.{size_of_set, size_of_within}
use Rattle.stores.proofs.bits.Bits.set.Goals as goal

pub overflow_add-self : goal.overflow_add-self
overflow_add-self c =
    let before = c.args.self.now in
    let few = size_of_within before.words.items in
    let limit = before.limit in
    let counted = before.counted in
    omega arith

pub invariant_of-self-clause-counted : goal.invariant_of-self-clause-counted
invariant_of-self-clause-counted c =
    let before = c.args.self.now in
    let counted = before.counted in
    let off = ap (λ words. is_set words c.bit_of-bit.result) (sym c.as_slice.ensures.value) ∙ sym c.test_bit.ensures ∙ c.if-not-test_bit.true in
    let more = size_of_set before.words.items c.set_bit.new.words.items c.bit_of-bit.result c.set_bit.ensures.words c.bit_of-bit.ensures.within c.set_bit.ensures.bits off in
    omega arith

pub returns-then-not-test_bit-clause-size : goal.returns-then-not-test_bit-clause-size
returns-then-not-test_bit-clause-size c =
    let before = c.args.self.now in
    let off = ap (λ words. is_set words c.bit_of-bit.result) (sym c.as_slice.ensures.value) ∙ sym c.test_bit.ensures ∙ c.if-not-test_bit.true in
    let more = size_of_set before.words.items c.set_bit.new.words.items c.bit_of-bit.result c.set_bit.ensures.words c.bit_of-bit.ensures.within c.set_bit.ensures.bits off in
    let none : is_member before.words.items before.front c.args.position ≡ false = ap (is_set before.words.items) (sym c.bit_of-bit.ensures.bit) ∙ off in
    rw none more

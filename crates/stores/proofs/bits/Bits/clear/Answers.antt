use Rattle.std.proofs.Common.{◌≡◌, true, ap, sym, ◌∙◌, arith}
use Rattle.stores.specs.Bits.{is_set, is_member}
use Rattle.stores.proofs.BitCounts.{size_of_clear}
use Rattle.stores.proofs.bits.Bits.clear.Goals as goal

pub overflow_sub-self : goal.overflow_sub-self
overflow_sub-self c =
    let before = c.args.self.now in
    let counted = before.counted in
    let on = ap (λ words. is_set words c.bit_of-bit.result) (sym c.as_slice.ensures.value) ∙ sym c.test_bit.ensures ∙ c.if-test_bit.true in
    let less = size_of_clear before.words.items c.clear_bit.new.words.items c.bit_of-bit.result c.clear_bit.ensures.words c.bit_of-bit.ensures.within c.clear_bit.ensures.bits on in
    omega arith

pub invariant_of-self-clause-counted : goal.invariant_of-self-clause-counted
invariant_of-self-clause-counted c =
    let before = c.args.self.now in
    let counted = before.counted in
    let on = ap (λ words. is_set words c.bit_of-bit.result) (sym c.as_slice.ensures.value) ∙ sym c.test_bit.ensures ∙ c.if-test_bit.true in
    let less = size_of_clear before.words.items c.clear_bit.new.words.items c.bit_of-bit.result c.clear_bit.ensures.words c.bit_of-bit.ensures.within c.clear_bit.ensures.bits on in
    omega arith

pub returns-then-test_bit-clause-size : goal.returns-then-test_bit-clause-size
returns-then-test_bit-clause-size c =
    let before = c.args.self.now in
    let on = ap (λ words. is_set words c.bit_of-bit.result) (sym c.as_slice.ensures.value) ∙ sym c.test_bit.ensures ∙ c.if-test_bit.true in
    let less = size_of_clear before.words.items c.clear_bit.new.words.items c.bit_of-bit.result c.clear_bit.ensures.words c.bit_of-bit.ensures.within c.clear_bit.ensures.bits on in
    let one : is_member before.words.items before.front c.args.position ≡ true = ap (is_set before.words.items) (sym c.bit_of-bit.ensures.bit) ∙ on in
    rw one less

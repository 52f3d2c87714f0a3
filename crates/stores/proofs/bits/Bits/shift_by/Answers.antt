use Rattle.std.proofs.Common.{◌+◌, arith}
use Rattle.stores.proofs.BitMoves.{IsShifted, shifted}
use Rattle.stores.proofs.BitCounts.{size_of_within}
use Rattle.stores.proofs.bits.Bits.shift_by.Goals as goal

cleared : (c : goal.After-clear_bits-lower) → IsShifted c.args.self.now.words.items c.clear_bits-lower.new.words.items c.args.self.now.front c.bit_of-after.result c.args.count (c.clear_bits-upper.result + c.clear_bits-lower.result)
cleared c =
    let before = c.args.self.now in
    shifted before.words.items c.clear_bits-upper.new.words.items c.clear_bits-lower.new.words.items before.front c.bit_of-after.result c.args.count c.min.result c.saturating_sub.result
    c.clear_bits-upper.result c.clear_bits-lower.result before.within c.bit_of-after.ensures.within c.requires c.bit_of-after.ensures.bit (omega arith) (omega arith)
    c.clear_bits-upper.ensures.words c.clear_bits-lower.ensures.words c.clear_bits-upper.ensures.bits c.clear_bits-lower.ensures.bits c.clear_bits-upper.ensures.count c.clear_bits-lower.ensures.count

moved : (c : goal.After-self-1) → IsShifted c.args.self.now.words.items c.clear_bits-lower.new.words.items c.args.self.now.front c.bit_of-after.result c.args.count (c.clear_bits-upper.result + c.clear_bits-lower.result)
moved c =
    let before = c.args.self.now in
    shifted before.words.items c.clear_bits-upper.new.words.items c.clear_bits-lower.new.words.items before.front c.bit_of-after.result c.args.count c.min.result c.saturating_sub.result
    c.clear_bits-upper.result c.clear_bits-lower.result before.within c.bit_of-after.ensures.within c.requires c.bit_of-after.ensures.bit (omega arith) (omega arith)
    c.clear_bits-upper.ensures.words c.clear_bits-lower.ensures.words c.clear_bits-upper.ensures.bits c.clear_bits-lower.ensures.bits c.clear_bits-upper.ensures.count c.clear_bits-lower.ensures.count

pub returns-clause-members : goal.returns-clause-members
returns-clause-members c = (moved c).members

pub returns-clause-size : goal.returns-clause-size
returns-clause-size c = (moved c).size

pub overflow_sub-self : goal.overflow_sub-self
overflow_sub-self c =
    let counted = c.args.self.now.counted in
    let size = (cleared c).size in
    let is = (cleared c).counted in
    omega arith

pub overflow_add-self : goal.overflow_add-self
overflow_add-self c =
    let limit = c.args.self.now.limit in
    let few = size_of_within c.args.self.now.words.items in
    let size = (cleared c).size in
    let is = (cleared c).counted in
    omega arith

pub invariant_of-self-clause-counted : goal.invariant_of-self-clause-counted
invariant_of-self-clause-counted c =
    let counted = c.args.self.now.counted in
    let size = (cleared c).size in
    let is = (cleared c).counted in
    omega arith

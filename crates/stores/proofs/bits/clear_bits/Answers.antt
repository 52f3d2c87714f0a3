use Rattle.std.proofs.Common.{◌-◌, ◌∙◌, arith}
use Rattle.stores.proofs.BitRanges.{run_more, count_more}
use Rattle.stores.proofs.Tallies.{few_pass}
use Rattle.stores.specs.Bits.{is_set}
use Rattle.stores.proofs.bits.clear_bits.Goals as goal

pub overflow_add-cleared : goal.overflow_add-cleared
overflow_add-cleared c =
    let inv = c.loop-bit.invariant in
    let words = c.args.words.now.items in
    let bit = c.loop-bit.bit in
    let first = few_pass (is_set words) c.args.from (bit - c.args.from) in
    let second = few_pass (is_set c.loop-bit.words.items) bit (c.min-next.result - bit) in
    let count = inv.count in
    let cleared = c.clear_in_word-cleared.ensures.count in
    let within = c.requires.within in
    let limit = c.requires.limit in
    omega arith

pub loop-bit-preserved : goal.loop-bit-preserved
loop-bit-preserved c =
    let inv = c.loop-bit.invariant in
    let words = c.args.words.now.items in
    let bit = c.loop-bit.bit in
    let next = c.min-next.result in
    let more = count_more words c.loop-bit.words.items c.args.from bit next inv.above (omega arith) inv.bits in
    let count = inv.count in
    let cleared = c.clear_in_word-cleared.ensures.count in
    record {
      above = omega arith;
      below = omega arith;
      bits = run_more words c.loop-bit.words.items c.clear_in_word-cleared.new.words.items c.args.from bit next _ inv.above (omega arith) inv.bits c.clear_in_word-cleared.ensures.bits;
      count = omega arith;
      words = c.clear_in_word-cleared.ensures.words ∙ inv.words;
    }

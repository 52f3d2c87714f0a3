use Rattle.std.proofs.Common.{◌+◌, length, min, slice_get, ap, sym, ◌∙◌, arith}
use Rattle.std.proofs.lemmas.Option.{slice_get_read}
use Rattle.stores.specs.Block.{bit_in_word, word_of}
use Rattle.stores.proofs.Blocks.{block_word}
use Rattle.stores.proofs.Soonest.{soonest_skip}
use Rattle.stores.proofs.due.by_blocks.next_by_blocks.Goals as goal

pub next_if_sooner-least-requires-clause-none : goal.next_if_sooner-least-requires-clause-none
next_if_sooner-least-requires-clause-none c = λ p above below.
    let slots = c.args.slots.now.items in
    let bounds = c.args.bounds.now.items in
    let words = length c.args.missing.now.words.items in
    let front = c.args.missing.now.front in
    let room = c.requires.room in
    let until = c.len-until.ensures.len in
    let is = c.loop-block.invariant.block in
    let on = c.next_block-next.ensures.start in
    let end = c.min-end.ensures in
    let from = c.ones-ones.ensures.position in
    let was = slice_get_read bounds words c.loop-block.block.word c.index.result.now (sym c.requires.blocks) is.word c.index.ensures in
    let word = ap (λ n. word_of n front p) c.requires.blocks ∙ block_word words front c.loop-block.block p c.min-end.result is (omega arith) below (omega arith) (omega arith) in
    c.due_from-soonest.ensures c.args.rule (slice_get slots p) (bit_in_word (length bounds) front p) (c.requires.bound p c.index.result.now (omega arith) (ap (slice_get bounds) word ∙ was))

-- no place of the block is missing
pub loop-block-preserved : goal.loop-block-preserved
loop-block-preserved c =
    let slots = c.args.slots.now.items in
    let missing = c.args.missing.now in
    let words = length missing.words.items in
    let start = c.loop-block.block.start in
    let next = c.next_block-next.result.start in
    let room = c.requires.room in
    let until = c.len-until.ensures.len in
    let before = c.loop-block-test.true in
    let is = c.loop-block.invariant.block in
    let small = is.bit in
    let on = c.next_block-next.ensures.start in
    record {
      block = c.next_block-next.ensures.block;
      so_far = soonest_skip c.args.rule c.loop-block.least slots (min start (length slots)) (min next (length slots))
          (λ p above below. sym (c.requires.index p (omega arith))
          ∙ c.is_blank.ensures c.if-not-is_blank.false p (block_word words missing.front c.loop-block.block p (p + 1) is (omega arith) (omega arith) (omega arith) (omega arith)))
          c.loop-block.invariant.so_far;
    }

use Rattle.std.proofs.Common.{◌+◌, ◌∙◌, slice_get, length, sym, subst, arith}
use Rattle.stores.specs.Bound.{IsBoundAt}
use Rattle.stores.proofs.Blocks.{block_word, block_bit}
use Rattle.stores.proofs.Bounds.{bound_after_walk}
use Rattle.stores.proofs.due.blocks.keep_bound.Goals as goal

pub returns-then-is_whole-clause-bound : goal.returns-then-is_whole-clause-bound
returns-then-is_whole-clause-bound c =
    let missing = c.args.missing.now in
    let words = length missing.words.items in
    let slots = c.args.slots.now.items in
    let block = c.args.block in
    let is = c.requires.block in
    let small = is.bit in
    let room = c.requires.room in
    let inside = c.requires.within in
    let len = c.len.ensures.len in
    let at = block_word words missing.front block block.start (block.start + 1) is (omega arith) (omega arith) (omega arith) (omega arith) in
    bound_after_walk c.args.rule c.args.bounds.now.items words missing.front block.start block.word slots c.args.bound c.requires.blocks (sym at) is.word
    (λ p below same.
    let here = c.is_whole.ensures c.if-is_whole.true p (omega arith) (same ∙ at) in
    let near = here.1 in
    let bit = block_bit words missing.front block p (p + 1) is here.0 (omega arith) (omega arith) (omega arith) in
    subst (λ b. IsBoundAt c.args.rule c.args.bound b (slice_get slots p)) (sym bit) (c.requires.seen p here.0 below here.1))
    c.requires.bound

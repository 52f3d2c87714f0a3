use Rattle.stores.proofs.BitRanges.{run_clear, run_count}
use Rattle.stores.proofs.bits.clear_in_word.Goals as goal

pub returns-clause-bits : goal.returns-clause-bits
returns-clause-bits c =
    λ b. run_clear c.args.words.now.items c.args.from c.args.end c.index-word.result.now c.mask-mask.result c.requires.some c.requires.within c.requires.word c.index-word.ensures c.mask-mask.ensures c.mask-mask.type_inv b

pub returns-clause-count : goal.returns-clause-count
returns-clause-count c =
    run_count c.args.words.now.items c.args.from c.args.end c.index-word.result.now c.mask-mask.result c.requires.some c.requires.within c.requires.word c.index-word.ensures c.mask-mask.ensures c.mask-mask.type_inv

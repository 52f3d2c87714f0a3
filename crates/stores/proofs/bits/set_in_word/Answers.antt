use Rattle.stores.proofs.BitRanges.{run_set}
use Rattle.stores.proofs.bits.set_in_word.Goals as goal

pub returns-clause-bits : goal.returns-clause-bits
returns-clause-bits c =
    λ b. run_set c.args.words.now.items c.args.from c.args.end c.index_mut.result.now c.mask.result c.requires.some c.requires.within c.requires.word c.index_mut.ensures.value c.mask.ensures b

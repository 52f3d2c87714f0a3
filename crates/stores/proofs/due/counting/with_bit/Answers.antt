use Rattle.stores.proofs.BitWords.{word_bit_or}
use Rattle.stores.proofs.due.counting.with_bit.Goals as goal

pub returns : goal.returns
returns c = λ b. word_bit_or c.args.bits c.args.bit b c.requires

use Rattle.std.proofs.Common.{arith}
use Rattle.stores.proofs.BitWords.{bit_set}
use Rattle.stores.proofs.bits.set_bit.Goals as goal

pub returns-clause-bits : goal.returns-clause-bits
returns-clause-bits c = λ b. bit_set c.args.words.now.items c.args.bit b c.index_mut.result.now (omega arith) c.index_mut.ensures.value

use Rattle.stores.proofs.BitWords.{word_bit_set}
use Rattle.stores.proofs.due.bound.Bound.leave_out.Goals as goal

pub returns-clause-without : goal.returns-clause-without
returns-clause-without c = λ b below. word_bit_set c.args.self.now.without c.args.bit b c.requires

use Rattle.stores.proofs.BitWords.{word_bits_clear}
use Rattle.stores.proofs.due.bound.Bound.take_in.Goals as goal

pub returns-clause-without : goal.returns-clause-without
returns-clause-without c = λ b below. word_bits_clear c.args.self.now.without c.args.bits b c.ranges.bits.fits below

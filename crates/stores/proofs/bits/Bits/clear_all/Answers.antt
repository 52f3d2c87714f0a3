use Rattle.std.proofs.Common.{length, ap, sym, ◌∙◌}
use Rattle.stores.specs.Bits.{size_of}
use Rattle.stores.proofs.BitCounts.{size_of_zeros}
use Rattle.stores.proofs.bits.Bits.clear_all.Goals as goal

pub invariant_of-self-clause-counted : goal.invariant_of-self-clause-counted
invariant_of-self-clause-counted c = sym (ap size_of c.clear_words.ensures ∙ size_of_zeros (length c.args.self.now.words.items))

pub returns-clause-count : goal.returns-clause-count
returns-clause-count c = ap size_of c.clear_words.ensures ∙ size_of_zeros (length c.args.self.now.words.items)

use Rattle.std.proofs.Common.{rules, ap, sym, ◌∙◌, ◌+◌, ◌/◌}
use Rattle.stores.specs.Bits.{size_of}
use Rattle.stores.proofs.BitCounts.{size_of_zeros}
use Rattle.stores.proofs.bits.Bits.new.Goals as goal

pub invariant_of-result-clause-counted : goal.invariant_of-result-clause-counted
invariant_of-result-clause-counted c = sym (ap size_of (search rules) ∙ size_of_zeros (c.args.top / 64 + 1))

use Rattle.std.proofs.Common.{length}
use Rattle.payload_types.proofs.types.+pair_of_repair.Given as goal

abbrev pub decreases-pair_of_repair : goal.decreases-pair_of_repair
decreases-pair_of_repair l = length l.pairs.now

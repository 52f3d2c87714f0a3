use Rattle.std.proofs.Common.{length}
use Rattle.payload_types.proofs.types.+pair_of_media.Given as goal

abbrev pub decreases-pair_of_media : goal.decreases-pair_of_media
decreases-pair_of_media l = length l.pairs.now

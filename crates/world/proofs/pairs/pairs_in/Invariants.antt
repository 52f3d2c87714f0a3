use Rattle.std.proofs.Common.{◌≡◌}
use Rattle.world.proofs.pairs.pairs_in.Given as goal

abbrev pub invariant-loop-pair : goal.invariant-loop-pair
invariant-loop-pair l = l.pairs.items ≡ l.yielded

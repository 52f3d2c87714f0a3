use Rattle.std.proofs.Common.{◌-◌, ◌≤◌, length}
use Rattle.fbwire.proofs.Packings.{PacksBefore}
use Rattle.fbwire.proofs.packing.pack_into.Given as goal

-- the pairs so far are taken before whatever is taken of the rest
abbrev pub invariant-loop-covered : goal.invariant-loop-covered
invariant-loop-covered l = record {
  within : l.covered ≤ length l.places;
  few : length l.pairs.items ≤ 64;
  packs : PacksBefore l.places l.pairs.items l.covered;
}

abbrev pub decreases-loop-covered : goal.decreases-loop-covered
decreases-loop-covered l = length l.places - l.covered

use Rattle.std.proofs.Common.{◌-◌, ◌+◌, ◌<◌, ◌≤◌, length, take, get_or}
use Rattle.std.specs.List.{All}
use Rattle.fbwire.proofs.FirstPair.{IsMaskOf}
use Rattle.fbwire.proofs.packing.first_pair.Given as goal

-- the mask has the places so far
abbrev pub invariant-loop-count : goal.invariant-loop-count
invariant-loop-count l = record {
  some : 0 < l.count;
  within : l.count ≤ length l.places;
  high : All (λ place. place ≤ get_or l.places 0 0 + 16) (take l.count l.places);
  mask : IsMaskOf l.blp (get_or l.places 0 0) (take l.count l.places);
}

abbrev pub decreases-loop-count : goal.decreases-loop-count
decreases-loop-count l = length l.places - l.count

use Rattle.std.proofs.Common.{◌≡◌, ◌+◌, ◌*◌, ◌++◌, length, take}
use Rattle.std.specs.List.{flat_map, All}
use Rattle.fbwire.specs.Nack.{IsPair, pair_octets}
use Rattle.fbwire.proofs.nack.push_pairs.Given as goal

-- the pairs so far
abbrev pub invariant-loop-pair : goal.invariant-loop-pair
invariant-loop-pair g l = record {
  written : l.out.items ≡ l.fn.out.items ++ flat_map pair_octets (take l.pair-index l.pairs);
  len : length l.out.items ≡ length l.fn.out.items + 4 * l.pair-index;
  fit : All IsPair (take l.pair-index l.pairs);
}

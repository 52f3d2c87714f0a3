use Rattle.std.proofs.Common.{◌≡◌, ◌++◌, length}
use Rattle.fbwire.specs.Nack.{numbers_of}
use Rattle.endpoint.specs.Counts.{count_in_64}
use Rattle.endpoint.proofs.asking.count.Given as goal

-- the numbers of the pairs so far were counted
abbrev pub invariant-loop-pair : goal.invariant-loop-pair
invariant-loop-pair l = record {
  all : l.fn.pairs ≡ l.yielded ++ l.pair-iterator;
  counted : l.count ≡ count_in_64 (length (numbers_of l.yielded));
}

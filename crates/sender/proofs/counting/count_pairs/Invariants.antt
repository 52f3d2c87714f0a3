use Rattle.std.proofs.Common.{◌≡◌, ◌++◌}
use Rattle.fbwire.specs.Nack.{numbers_of}
use Rattle.sender.specs.Counting.{CountsNumbers}
use Rattle.sender.proofs.counting.count_pairs.Given as goal

-- the numbers of the pairs so far were counted
abbrev pub invariant-loop-pair : goal.invariant-loop-pair
invariant-loop-pair g l = record {
  all : l.fn.pairs ≡ l.yielded ++ l.pair-iterator;
  counts : CountsNumbers l.repeats (g.H.History.meaning l.history) (numbers_of l.yielded) l.shared;
}

use Rattle.std.proofs.Common.{◌≡◌, ◌++◌}
use Rattle.fbwire.specs.Nack.{numbers_of}
use Rattle.sender.specs.Marking.{MarksNumbers}
use Rattle.sender.proofs.marking.mark_pairs.Given as goal

-- it was marked for the numbers of the pairs so far
abbrev pub invariant-loop-pair : goal.invariant-loop-pair
invariant-loop-pair g l = record {
  all : l.fn.pairs ≡ l.yielded ++ l.pair-iterator;
  marks : MarksNumbers l.repeats (numbers_of l.yielded) (g.H.History.meaning l.fn.history) l.count (g.H.History.meaning l.history);
}

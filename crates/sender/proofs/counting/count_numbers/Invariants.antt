use Rattle.std.proofs.Common.{◌≡◌, ◌++◌}
use Rattle.sender.specs.Counting.{CountsNumbers}
use Rattle.sender.proofs.counting.count_numbers.Given as goal

-- the numbers so far were counted
abbrev pub invariant-loop-number : goal.invariant-loop-number
invariant-loop-number g l = record {
  all : l.fn.numbers ≡ l.yielded ++ l.number-iterator;
  counts : CountsNumbers l.repeats (g.H.History.meaning l.history) l.yielded l.shared;
}

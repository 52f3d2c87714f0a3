use Rattle.std.proofs.Common.{◌≡◌, ◌++◌}
use Rattle.sender.specs.Marking.{MarksNumbers}
use Rattle.sender.proofs.marking.mark_numbers.Given as goal

-- it was marked for the numbers so far
abbrev pub invariant-loop-number : goal.invariant-loop-number
invariant-loop-number g l = record {
  all : l.fn.numbers ≡ l.yielded ++ l.number-iterator;
  marks : MarksNumbers l.repeats l.yielded (g.H.History.meaning l.fn.history) l.count (g.H.History.meaning l.history);
}

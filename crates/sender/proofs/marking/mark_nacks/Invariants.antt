use Rattle.std.proofs.Common.{◌≡◌, ◌++◌}
use Rattle.sender.specs.Marking.{MarksNumbers}
use Rattle.sender.specs.Shared.{our_numbers}
use Rattle.sender.proofs.marking.mark_nacks.Given as goal

-- it was marked for the numbers of the NACKs so far
abbrev pub invariant-loop-nack : goal.invariant-loop-nack
invariant-loop-nack g l = record {
  all : l.fn.nacks ≡ l.yielded ++ l.nack-iterator;
  marks : MarksNumbers l.config.repeats (our_numbers l.config l.yielded) (g.H.History.meaning l.fn.history) l.count (g.H.History.meaning l.history);
}

use Rattle.std.proofs.Common.{◌≡◌, ◌++◌}
use Rattle.sender.specs.Counting.{CountsNacks}
use Rattle.sender.proofs.counting.count_nacks.Given as goal

-- the NACKs so far were counted
abbrev pub invariant-loop-nack : goal.invariant-loop-nack
invariant-loop-nack g l = record {
  all : l.fn.nacks ≡ l.yielded ++ l.nack-iterator;
  counts : CountsNacks l.config (g.H.History.meaning l.history) l.yielded l.shared;
}

use Rattle.std.proofs.Common.{◌-◌, length}
use Rattle.std.specs.Io.KnownBytes.{Keeps, prepend_known}
use Rattle.commands.proofs.sim.next_line.Given as goal

abbrev pub invariant-loop-pending : goal.invariant-loop-pending
invariant-loop-pending g l = record {
  read : Keeps (prepend_known l.fn.pending (g.R.Read.remaining l.fn.input)) (prepend_known l.pending (g.R.Read.remaining l.input));
  written : Keeps (g.W.Write.contents l.fn.output) (g.W.Write.contents l.output);
}

abbrev pub decreases-loop-pending : goal.decreases-loop-pending
decreases-loop-pending g l = 4097 - length l.pending

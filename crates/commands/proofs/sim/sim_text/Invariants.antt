use Rattle.std.specs.Io.KnownBytes.{prepend_known}
use Rattle.commands.specs.Reading.{IfBoth}
use Rattle.commands.proofs.ProgressLemmas.{Progress}
use Rattle.commands.proofs.sim.sim_text.Given as goal

abbrev pub invariant-loop-count : goal.invariant-loop-count
invariant-loop-count g l =
    IfBoth (g.R.Read.remaining l.fn.input) (prepend_known l.pending (g.R.Read.remaining l.input))
    (Progress l.world l.count (g.W.Write.contents l.fn.output) (g.W.Write.contents l.output))

use Rattle.std.proofs.Common.{◌≡◌, take}
use Rattle.world.specs.Counts.{counts_of}
use Rattle.world.proofs.counts.Counts.of.Given as goal

-- what the log comes to up to here
abbrev pub invariant-loop-entry : goal.invariant-loop-entry
invariant-loop-entry l = l.counts ≡ counts_of (take l.entry-index l.log)

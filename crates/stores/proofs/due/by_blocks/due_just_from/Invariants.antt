use Rattle.std.proofs.Common.{◌-◌, ◌≤◌}
use Rattle.stores.proofs.due.by_blocks.due_just_from.Given as goal

abbrev pub invariant-loop-found : goal.invariant-loop-found
invariant-loop-found l = record {
  within : l.left.position ≤ l.end;
}

abbrev pub decreases-loop-found : goal.decreases-loop-found
decreases-loop-found l = l.end - l.left.position

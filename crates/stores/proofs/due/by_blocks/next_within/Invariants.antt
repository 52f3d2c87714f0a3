use Rattle.std.proofs.Common.{◌-◌, ◌≤◌, slice_get}
use Rattle.stores.specs.Asking.{is_missing}
use Rattle.stores.specs.Foreseen.{IsSoonest}
use Rattle.stores.specs.Ones.{HasEach, HasNoneFrom}
use Rattle.stores.proofs.due.by_blocks.next_within.Given as goal

abbrev pub invariant-loop-found : goal.invariant-loop-found
invariant-loop-found l = record {
  so_far : IsSoonest l.rule l.least l.slots.items l.left.position;
  within : l.left.position ≤ l.end;
  covers : HasEach l.left (λ p. is_missing (slice_get l.slots.items p)) l.end;
  below : HasNoneFrom l.left l.end;
}

abbrev pub decreases-loop-found : goal.decreases-loop-found
decreases-loop-found l = l.end - l.left.position

use Rattle.std.proofs.Common.{◌-◌, ◌≤◌, length}
use Rattle.stores.specs.Foreseen.{IsSoonest}
use Rattle.stores.proofs.due.plain.next_among.Given as goal

abbrev pub invariant-loop-next : goal.invariant-loop-next
invariant-loop-next l = record {
  so_far : IsSoonest l.rule l.least l.slots.items l.index;
  within : l.index ≤ length l.slots.items;
}

abbrev pub decreases-loop-next : goal.decreases-loop-next
decreases-loop-next l = l.until - l.index

use Rattle.std.proofs.Common.{◌≡◌, ◌-◌, ◌≤◌, ◌++◌, length}
use Rattle.stores.specs.Asking.{longest_ask}
use Rattle.stores.proofs.DueSlots.{due_left}
use Rattle.stores.proofs.due.plain.due_among.Given as goal

abbrev pub invariant-loop-found : goal.invariant-loop-found
invariant-loop-found l = record {
  left : l.due.items ++ due_left l.now l.fn.rule.delay l.fn.rule.retry l.fn.rule.asks l.first l.slots.items l.index ≡ due_left l.now l.fn.rule.delay l.fn.rule.retry l.fn.rule.asks l.first l.slots.items 0;
  fits : length l.due.items ≤ longest_ask;
  within : l.index ≤ length l.slots.items;
}

abbrev pub decreases-loop-found : goal.decreases-loop-found
decreases-loop-found l = l.until - l.index

use Rattle.std.proofs.Common.{◌≡◌, ◌++◌, replicate}
use Rattle.stores.specs.Put.{noticed_at}
use Rattle.stores.proofs.ring_window.add_missing.Given as goal

abbrev pub invariant-added : goal.invariant-added
invariant-added l = record {
  items : l.slots.items ≡ l.fn.slots.items ++ replicate l.counter (noticed_at l.now);
  capacity : l.slots.capacity ≡ l.fn.slots.capacity;
}

use Rattle.std.proofs.Common.{◌≡◌, ◌+◌, ◌++◌, replicate, vec_len}
use Rattle.std.specs.Vec.{vec_capacity}
use Rattle.stores.specs.Put.{noticed_at}
use Rattle.stores.proofs.list_window.add_missing.Given as goal

abbrev pub invariant-added : goal.invariant-added
invariant-added l = record {
  items : l.slots.items ≡ l.fn.slots.items ++ replicate l.counter (noticed_at l.now);
  len : vec_len l.slots ≡ vec_len l.fn.slots + l.counter;
  capacity : vec_capacity l.slots ≡ vec_capacity l.fn.slots;
}

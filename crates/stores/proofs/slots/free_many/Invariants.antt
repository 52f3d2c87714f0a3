use Rattle.std.proofs.Common.{◌≡◌, ◌++◌, take, vec_capacity}
use Rattle.stores.specs.Pool.{numbers_of}
use Rattle.stores.proofs.slots.free_many.Given as goal

abbrev pub invariant-freed : goal.invariant-freed
invariant-freed l = record {
  free : l.free.items ≡ l.fn.free.items ++ numbers_of (take l.index l.cells.items);
  capacity : vec_capacity l.free ≡ vec_capacity l.fn.free;
}

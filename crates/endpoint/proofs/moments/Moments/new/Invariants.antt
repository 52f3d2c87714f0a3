use Rattle.std.proofs.Common.{◌≡◌, ◌≤◌, length}
use Rattle.std.specs.Vec.{vec_capacity}
use Rattle.endpoint.proofs.moments.Moments.new.Given as goal

abbrev pub invariant-blank : goal.invariant-blank
invariant-blank l = record {
  len : length l.cells.items ≡ l.counter;
  room : l.count ≤ vec_capacity l.cells;
}

use Rattle.std.proofs.Common.{◌≡◌, ◌≤◌}
use Rattle.std.specs.Vec.{vec_capacity}
use Rattle.endpoint.specs.Asked.{none_asked}
use Rattle.endpoint.proofs.asked_places.AskedPlaces.new.Given as goal

abbrev pub invariant-blank : goal.invariant-blank
invariant-blank l = record {
  blank : l.cells.items ≡ none_asked l.counter;
  room : l.count ≤ vec_capacity l.cells;
}

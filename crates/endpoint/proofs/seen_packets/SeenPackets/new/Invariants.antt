use Rattle.std.proofs.Common.{◌≡◌, ◌≤◌}
use Rattle.std.specs.Vec.{vec_capacity}
use Rattle.endpoint.specs.Seen.{none_seen}
use Rattle.endpoint.proofs.seen_packets.SeenPackets.new.Given as goal

abbrev pub invariant-blank : goal.invariant-blank
invariant-blank l = record {
  blank : l.cells.items ≡ none_seen l.counter;
  room : l.count ≤ vec_capacity l.cells;
}

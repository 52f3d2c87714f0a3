use Rattle.std.proofs.Common.{◌≡◌, drop, length, Some}
use Rattle.stores.specs.Asking.{CanEachBeAsked, asked_each}
use Rattle.stores.specs.Index.{IsIndex}
use Rattle.stores.specs.Bound.{AreBoundsBut, AreDueFrom, IsTurned}
use Rattle.stores.specs.Span.{span_of}
use Rattle.stores.proofs.due.counting.count_each.Given as goal

abbrev pub invariant-loop-place : goal.invariant-loop-place
invariant-loop-place l = record {
  left : asked_each (span_of (Some l.first) l.fn.slots) l.places l.now ≡ asked_each (span_of (Some l.first) l.slots) (drop l.place-index l.places) l.now;
  askable : CanEachBeAsked (span_of (Some l.first) l.slots) (drop l.place-index l.places) l.now;
  len : length l.slots.items ≡ length l.fn.slots.items;
  capacity : l.slots.capacity ≡ l.fn.slots.capacity;
  index : IsIndex l.missing.words.items l.missing.front l.slots.items;
  blocks : length l.bounds.items ≡ length l.missing.words.items;
  turned : IsTurned l.asked (length l.missing.words.items);
  bound : AreBoundsBut l.asked.word l.asked.bits l.fn.rule l.bounds.items l.missing.front l.slots.items;
  due : AreDueFrom l.asked.word l.asked.bits l.fn.rule l.again (length l.missing.words.items) l.missing.front l.slots.items;
}

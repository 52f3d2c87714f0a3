use Rattle.std.proofs.Common.{◌≡◌, ℕ, ◌-◌, ◌<◌, ◌≤◌, true, length, slice_get, Some}
use Rattle.stores.specs.Asking.{has_come}
use Rattle.stores.specs.declared.due.bound.Bound.{Bound}
use Rattle.stores.specs.Bound.{AreBounds}
use Rattle.stores.specs.Block.{word_of}
use Rattle.stores.proofs.due.blocks.note_missing.Given as goal

abbrev pub invariant-loop-position : goal.invariant-loop-position
invariant-loop-position l = record {
  blocks : length l.bounds.items ≡ length l.missing.words.items;
  old : AreBounds l.fn.rule l.bounds.items l.missing.front l.slots.items;
  more : (p : ℕ) → (bound : Bound) → length l.slots.items ≤ p → p < l.position → slice_get l.bounds.items (word_of (length l.bounds.items) l.missing.front p) ≡ Some bound → (at : ℕ) → has_come l.moment at ≡ true → has_come bound.from at ≡ true;
  above : length l.slots.items ≤ l.position;
}

abbrev pub decreases-loop-position : goal.decreases-loop-position
decreases-loop-position l = l.end - l.position

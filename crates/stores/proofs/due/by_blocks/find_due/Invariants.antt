use Rattle.std.proofs.Common.{◌≡◌, ℕ, ◌-◌, ◌<◌, ◌≤◌, ◌++◌, length, take, slice_get}
use Rattle.stores.specs.Block.{IsBlock}
use Rattle.stores.specs.Bound.{AreBounds, IsDueFrom}
use Rattle.stores.proofs.DueSlots.{due_left}
use Rattle.stores.proofs.due.by_blocks.find_due.Given as goal

abbrev pub invariant-loop-block : goal.invariant-loop-block
invariant-loop-block l = record {
  block : IsBlock (length l.missing.words.items) l.missing.front l.block;
  left : take l.count l.due ++ due_left l.wanted.now l.wanted.rule.delay l.wanted.rule.retry l.wanted.rule.asks l.first l.slots.items l.block.start ≡ due_left l.wanted.now l.wanted.rule.delay l.wanted.rule.retry l.wanted.rule.asks l.first l.slots.items 0;
  fits : l.count ≤ length l.initial.due;
  len : length l.due ≡ length l.initial.due;
  passed : (p : ℕ) → p < l.block.start → p < length l.slots.items → IsDueFrom l.wanted.rule l.best (slice_get l.slots.items p);
  at : l.at ≤ length l.slots.items;
  blocks : length l.bounds.items ≡ length l.missing.words.items;
  bound : AreBounds l.wanted.rule l.bounds.items l.missing.front l.slots.items;
}

abbrev pub decreases-loop-block : goal.decreases-loop-block
decreases-loop-block l = l.until - l.block.start

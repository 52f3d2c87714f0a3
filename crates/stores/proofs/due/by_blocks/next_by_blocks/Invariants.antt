use Rattle.std.proofs.Common.{◌-◌, length, min}
use Rattle.stores.specs.Block.{IsBlock}
use Rattle.stores.specs.Foreseen.{IsSoonest}
use Rattle.stores.proofs.due.by_blocks.next_by_blocks.Given as goal

abbrev pub invariant-loop-block : goal.invariant-loop-block
invariant-loop-block l = record {
  block : IsBlock (length l.missing.words.items) l.missing.front l.block;
  so_far : IsSoonest l.rule l.least l.slots.items (min l.block.start (length l.slots.items));
}

abbrev pub decreases-loop-block : goal.decreases-loop-block
decreases-loop-block l = l.until - l.block.start

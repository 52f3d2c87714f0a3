use Rattle.std.proofs.Common.{◌≡◌, ◌≤◌, ◌<◌, ◌+◌, ◌-◌, ◌++◌, ℕ, length, take, slice_get}
use Rattle.stores.proofs.due.by_blocks.look.Given as goal
use Rattle.stores.specs.Asking.{is_missing}
use Rattle.stores.specs.Due.{due_rest}
use Rattle.stores.specs.Bound.{IsBoundAt}
use Rattle.stores.specs.Ones.{HasEach, HasNoneFrom}

abbrev pub invariant-loop-next : goal.invariant-loop-next
invariant-loop-next l = record {
  left : take l.count l.due ++ due_rest l.wanted.now l.wanted.rule.delay l.wanted.rule.retry l.wanted.rule.asks l.first l.slots.items l.index ≡ take l.initial.count l.initial.due ++ due_rest l.wanted.now l.wanted.rule.delay l.wanted.rule.retry l.wanted.rule.asks l.first l.slots.items l.start;
  more : l.initial.count ≤ l.count;
  fits : l.count ≤ length l.initial.due;
  len : length l.due ≡ length l.initial.due;
  above : l.start ≤ l.index;
  within : l.index ≤ l.end;
  position : l.left.position ≡ l.index;
  covers : HasEach l.left (λ p. is_missing (slice_get l.slots.items p)) l.end;
  below : HasNoneFrom l.left l.end;
  seen : (p : ℕ) → l.start ≤ p → p < l.index → IsBoundAt l.wanted.rule l.bound (l.bit + (p - l.start)) (slice_get l.slots.items p);
}

abbrev pub decreases-loop-next : goal.decreases-loop-next
decreases-loop-next l = l.end - l.index

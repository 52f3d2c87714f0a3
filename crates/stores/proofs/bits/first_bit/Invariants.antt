use Rattle.std.proofs.Common.{◌≡◌, ℕ, ◌-◌, ◌<◌, ◌≤◌, false}
use Rattle.stores.specs.Bits.{is_set}
use Rattle.stores.proofs.bits.first_bit.Given as goal

abbrev pub invariant-loop-bit : goal.invariant-loop-bit
invariant-loop-bit l = record {
  above : l.from ≤ l.bit;
  none : (b : ℕ) → l.from ≤ b → b < l.bit → is_set l.words b ≡ false;
}

abbrev pub decreases-loop-bit : goal.decreases-loop-bit
decreases-loop-bit l = l.end - l.bit

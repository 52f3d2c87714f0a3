use Rattle.std.proofs.Common.{◌≡◌, ℕ, ◌-◌, ◌≤◌, false, length}
use Rattle.std.specs.Prelude.{if◌then◌else◌}
use Rattle.stores.specs.Bits.{is_set, is_between, set_from}
use Rattle.stores.proofs.bits.clear_bits.Given as goal

abbrev pub invariant-loop-bit : goal.invariant-loop-bit
invariant-loop-bit l = record {
  above : l.from ≤ l.bit;
  below : l.bit ≤ l.end;
  bits : (b : ℕ) → is_set l.words.items b ≡ (if is_between l.from l.bit b then false else is_set l.fn.words.items b);
  count : l.cleared ≡ set_from l.fn.words.items l.from (l.bit - l.from);
  words : length l.words.items ≡ length l.fn.words.items;
}

abbrev pub decreases-loop-bit : goal.decreases-loop-bit
decreases-loop-bit l = l.end - l.bit

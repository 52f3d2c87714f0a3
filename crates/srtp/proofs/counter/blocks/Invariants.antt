use Rattle.std.proofs.Common.{◌≡◌, ℕ, ◌*◌, ◌/◌, ◌%◌, ◌<◌, List, length, get_or}
use Rattle.srtp.specs.Lanes.{state_in}
use Rattle.srtp.proofs.counter.blocks.Given as goal

abbrev pub invariant-loop-j : goal.invariant-loop-j
invariant-loop-j l = record {
  len : length l.blocks ≡ 16;
  each : (none empty : List ℕ) (i : ℕ) → i < 4 * l.j
      → get_or l.blocks i none ≡ state_in (get_or l.states (i / 4) empty) (i % 4);
}

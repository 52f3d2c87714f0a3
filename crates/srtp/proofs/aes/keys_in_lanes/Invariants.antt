use Rattle.std.proofs.Common.{◌≡◌, ℕ, ◌<◌, List, length, get_or}
use Rattle.srtp.specs.Lanes.{state_in}
use Rattle.srtp.proofs.aes.keys_in_lanes.Given as goal

abbrev pub invariant-loop-r : goal.invariant-loop-r
invariant-loop-r l = record {
  len : length l.lanes ≡ 11;
  each : (none empty : List ℕ) (k b : ℕ) → k < l.r → b < 4 → state_in (get_or l.lanes k empty) b ≡ get_or l.keys k none;
}

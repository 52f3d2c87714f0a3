use Rattle.std.proofs.Common.{◌≡◌, ℕ, ◌≤◌, List, length, get_or}
use Rattle.srtp.specs.Aes.{round_key}
use Rattle.srtp.proofs.aes.round_keys.Given as goal

abbrev pub invariant-loop-r : goal.invariant-loop-r
invariant-loop-r l = record {
  len : length l.keys ≡ 11;
  last : l.round_key ≡ round_key l.key l.r;
  each : (none : List ℕ) (k : ℕ) → k ≤ l.r → get_or l.keys k none ≡ round_key l.key k;
}

use Rattle.std.proofs.Common.{◌≡◌, ℕ, ◌+◌, ◌*◌, ◌<◌, List, length, get_or}
use Rattle.srtp.specs.Counter.{counter_block}
use Rattle.srtp.specs.Lanes.{state_in}
use Rattle.srtp.proofs.counter.counters.Given as goal

abbrev pub invariant-loop-j : goal.invariant-loop-j
invariant-loop-j l = record {
  len : length l.states ≡ 4;
  each : (empty : List ℕ) (k b : ℕ) → k < l.j → b < 4
      → state_in (get_or l.states k empty) b ≡ counter_block l.base (l.n + 4 * k + b);
}

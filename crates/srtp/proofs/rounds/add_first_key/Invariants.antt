use Rattle.std.proofs.Common.{◌≡◌, ℕ, ◌<◌, ◌≤◌, List, length, get_or}
use Rattle.srtp.specs.Octets.{xor_octets}
use Rattle.srtp.specs.Lanes.{state_in}
use Rattle.srtp.proofs.rounds.add_first_key.Given as goal

abbrev pub invariant-loop-j : goal.invariant-loop-j
invariant-loop-j l = record {
  len : length l.states ≡ 4;
  done : (empty : List ℕ) (k b : ℕ) → k < l.j → b < 4
      → state_in (get_or l.states k empty) b
      ≡ xor_octets (state_in (get_or l.initial.states k empty) b) (state_in l.key b);
  left : (empty : List ℕ) (k : ℕ) → l.j ≤ k → get_or l.states k empty ≡ get_or l.initial.states k empty;
}

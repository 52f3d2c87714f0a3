use Rattle.std.proofs.Common.{◌≡◌, ℕ, ◌-◌, ◌<◌, List, get_or}
use Rattle.srtp.specs.Aes.{rounds, AreRoundKeys}
use Rattle.srtp.specs.Lanes.{state_in}
use Rattle.srtp.proofs.aes.Aes128.encrypt_lanes.Given as goal

abbrev pub invariant-loop-r : goal.invariant-loop-r
invariant-loop-r l = (key empty : List ℕ) (j b : ℕ) → AreRoundKeys l.self.keys key → j < 4 → b < 4
    → state_in (get_or l.states j empty) b ≡ rounds key (state_in (get_or l.fn.states j empty) b) (l.r - 1)

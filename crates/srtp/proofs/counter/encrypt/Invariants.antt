use Rattle.std.proofs.Common.{◌≡◌, ℕ, ◌*◌, List}
use Rattle.srtp.specs.Octets.{xor_octets}
use Rattle.srtp.specs.Aes.{AreRoundKeys}
use Rattle.srtp.specs.Counter.{keystream}
use Rattle.srtp.proofs.counter.encrypt.Given as goal

abbrev pub invariant-loop-j : goal.invariant-loop-j
invariant-loop-j l =
    (master : List ℕ) → AreRoundKeys l.key.keys master
    → l.text ≡ xor_octets l.initial.text (keystream master l.base (16 * l.j))

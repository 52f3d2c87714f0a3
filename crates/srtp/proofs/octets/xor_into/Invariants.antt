use Rattle.std.proofs.Common.{◌≡◌, take}
use Rattle.srtp.specs.Octets.{xor_octets}
use Rattle.srtp.proofs.octets.xor_into.Given as goal

abbrev pub invariant-loop-i : goal.invariant-loop-i
invariant-loop-i l = l.octets ≡ xor_octets l.initial.octets (take l.i l.with)

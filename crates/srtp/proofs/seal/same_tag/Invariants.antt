use Rattle.std.proofs.Common.{◌≡◌, ◌==◌, take}
use Rattle.srtp.specs.Seal.{same_octets}
use Rattle.srtp.proofs.seal.same_tag.Given as goal

abbrev pub invariant-loop-i : goal.invariant-loop-i
invariant-loop-i l = (l.differing == 0) ≡ same_octets (take l.i l.a) (take l.i l.b)

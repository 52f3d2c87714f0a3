use Rattle.std.proofs.Common.{◌≡◌, ◌+◌, ◌*◌, ◌++◌, length, take}
use Rattle.rtpwire.specs.Rtp.{word_octets}
use Rattle.rtpwire.proofs.octets.push_numbers.Given as goal

abbrev pub invariant-loop-number : goal.invariant-loop-number
invariant-loop-number g l =
    (l.out.items ≡ l.fn.out.items ++ word_octets (take l.number-index l.numbers))
    × (length l.out.items ≡ length l.fn.out.items + 4 * l.number-index)

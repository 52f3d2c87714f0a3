use Rattle.std.proofs.Common.{◌≡◌, ◌+◌, ◌++◌, length}
use Rattle.rtpwire.specs.RtpReading.{words_at}
use Rattle.rtpwire.proofs.content.push_words_in.Given as goal

abbrev pub invariant-loop-index : goal.invariant-loop-index
invariant-loop-index g l = (l.to.items ≡ l.fn.to.items ++ words_at l.index l.octets) × (length l.to.items ≡ length l.fn.to.items + l.index)

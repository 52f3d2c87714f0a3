use Rattle.std.proofs.Common.{◌≡◌, ◌<◌, length, false}
use Rattle.rtpwire.specs.Framing.{IsRest}
use Rattle.commands.proofs.ShowLemmas.{ShownOfRead}
use Rattle.commands.proofs.show.show_trace.Given as goal

-- what was read so far was shown
abbrev pub invariant-loop : goal.invariant-loop
invariant-loop g l =
    (l.deframer.has_failed ≡ false) × IsRest l.deframer.rest × (0 < length l.piece)
    × ShownOfRead (g.R.Read.remaining l.fn.input) (g.R.Read.remaining l.input) (g.W.Write.contents l.fn.output.writer) (g.W.Write.contents l.output.writer) l.deframer.rest l.count

use Rattle.std.proofs.Common.{◌≡◌, ◌≤◌, ◌-◌, length, take, false}
use Rattle.rtpwire.specs.Framing.{IsRest}
use Rattle.commands.specs.Showing.{GoesOn}
use Rattle.commands.proofs.show.show_piece.Given as goal

abbrev pub invariant-loop-done : goal.invariant-loop-done
invariant-loop-done g l =
    (l.done ≤ length l.piece) × (l.deframer.has_failed ≡ false) × IsRest l.deframer.rest
    × GoesOn (g.W.Write.contents l.fn.output.writer) (g.W.Write.contents l.output.writer) l.fn.deframer.rest l.deframer.rest l.fn.count l.count (take l.done l.piece)

abbrev pub decreases-loop-done : goal.decreases-loop-done
decreases-loop-done g l = length l.piece - l.done

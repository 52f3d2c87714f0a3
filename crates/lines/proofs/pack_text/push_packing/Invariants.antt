use Rattle.std.proofs.Common.{List, ℕ, length}
use Rattle.std.specs.Io.KnownBytes.{Appends}
use Rattle.std.specs.List.Sorted.{IsStrictlyIncreasing}
use Rattle.fbwire.specs.Packing.{IsNarrow}
use Rattle.lines.specs.PackText.{AskInTurn, datagram_lines}
use Rattle.lines.proofs.pack_text.push_packing.Given as goal

-- the lines of datagrams that ask for the places before those that are left
abbrev pub invariant-loop-left : goal.invariant-loop-left
invariant-loop-left g l = record {
  rising : IsStrictlyIncreasing l.left;
  narrow : IsNarrow l.left;
  datagrams : List (List ℕ);
  asked : AskInTurn l.places datagrams l.left;
  pushed : Appends (g.S.Sink.contents l.fn.sink) (g.S.Sink.contents l.sink) (datagram_lines datagrams);
}

abbrev pub decreases-loop-left : goal.decreases-loop-left
decreases-loop-left g l = length l.left

use Rattle.std.proofs.Common.{◌≡◌, ◌++◌}
use Rattle.std.specs.Io.KnownBytes.{Appends}
use Rattle.lines.specs.ShowText.{pair_text}
use Rattle.lines.proofs.LineLemmas.{spaced}
use Rattle.lines.proofs.nack_text.push_pairs.Given as goal

-- those so far were pushed
abbrev pub invariant-loop-pair : goal.invariant-loop-pair
invariant-loop-pair g l = record {
  all : l.fn.pairs ≡ l.yielded ++ l.pair-iterator;
  pushed : Appends (g.S.Sink.contents l.fn.sink) (g.S.Sink.contents l.sink) (spaced pair_text l.yielded);
}

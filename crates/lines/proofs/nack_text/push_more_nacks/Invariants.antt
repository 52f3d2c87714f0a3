use Rattle.std.proofs.Common.{◌≡◌, ◌++◌}
use Rattle.std.specs.Io.KnownBytes.{Appends}
use Rattle.lines.specs.ShowText.{nack_text}
use Rattle.lines.proofs.LineLemmas.{spaced}
use Rattle.lines.proofs.nack_text.push_more_nacks.Given as goal

-- those so far were pushed
abbrev pub invariant-loop-nack : goal.invariant-loop-nack
invariant-loop-nack g l = record {
  all : l.fn.nacks ≡ l.yielded ++ l.nack-iterator;
  pushed : Appends (g.S.Sink.contents l.fn.sink) (g.S.Sink.contents l.sink) (spaced nack_text l.yielded);
}

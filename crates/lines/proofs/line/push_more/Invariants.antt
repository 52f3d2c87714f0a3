use Rattle.std.proofs.Common.{map, take}
use Rattle.std.specs.Io.KnownBytes.{Appends}
use Rattle.std.specs.List.{flat_map}
use Rattle.lines.specs.Line.{behind_space}
use Rattle.lines.specs.WordText.{word_text}
use Rattle.lines.proofs.line.push_more.Given as goal

-- the words so far were pushed
abbrev pub invariant-loop-word : goal.invariant-loop-word
invariant-loop-word g l =
    Appends (g.S.Sink.contents l.fn.sink) (g.S.Sink.contents l.sink) (flat_map behind_space (map word_text (take l.word-index l.words)))

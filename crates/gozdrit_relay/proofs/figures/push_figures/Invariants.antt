use Rattle.std.proofs.Common.{◌≡◌, map, take}
use Rattle.std.specs.List.{flat_map}
use Rattle.lines.specs.WordText.{word_text}
use Rattle.gozdrit_relay.specs.Figures.{figure_words}
use Rattle.gozdrit_relay.proofs.figures.push_figures.Given as goal

-- the words so far say the figures so far
abbrev pub invariant-loop-figure : goal.invariant-loop-figure
invariant-loop-figure l = map word_text l.words.items ≡ flat_map figure_words (take l.figure-index l.figures)

use Rattle.std.proofs.Common.{◌+◌}
use Rattle.std.proofs.lemmas.List.{take_rest}
use Rattle.lines.proofs.WordLemmas.{words_of-cut, words_of-one}
use Rattle.lines.proofs.words.cut.Goals as goal

pub returns-in-Some : goal.returns-in-Some
returns-in-Some c = rw (take_rest c.args.line.now (c.in-Some.at + 1)) (words_of-cut c.args.line.now _ _ c.in-Some.ensures.parts c.in-Some.ensures.first)

pub returns-in-None : goal.returns-in-None
returns-in-None c = words_of-one c.args.line.now c.in-None.ensures.absent

use Rattle.std.proofs.Common.{◌+◌}
use Rattle.std.proofs.lemmas.List.{take_rest}
use Rattle.commands.proofs.DropLemmas.{pieces_of-cut, pieces_of-one}
use Rattle.commands.proofs.drops.cut.Goals as goal

pub returns-in-Some-clause-pieces : goal.returns-in-Some-clause-pieces
returns-in-Some-clause-pieces c = rw (take_rest c.args.text.now (c.in-Some.at + 1)) (pieces_of-cut c.args.text.now _ _ c.in-Some.ensures.parts c.in-Some.ensures.first)

pub returns-in-None-clause-pieces : goal.returns-in-None-clause-pieces
returns-in-None-clause-pieces c = pieces_of-one c.args.text.now c.in-None.ensures.absent

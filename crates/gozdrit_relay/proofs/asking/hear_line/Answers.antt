use Rattle.std.proofs.Common.{rules}
use Rattle.gozdrit_relay.proofs.FirstLine.{first_line_ends, first_line_none}
use Rattle.gozdrit_relay.proofs.asking.hear_line.Goals as goal

pub returns-in-Some : goal.returns-in-Some
returns-in-Some c = rw c.in-Some.ensures.parts (rw (first_line_ends _ _ c.in-Some.ensures.first) (search rules))

pub returns-in-None : goal.returns-in-None
returns-in-None c = rw (first_line_none _ c.in-None.ensures.absent) (search rules)

use Rattle.commands.proofs.ScriptLemmas.{event_read, end_at, fails_read, fails_refused}
use Rattle.commands.proofs.sim.read_event.Goals as goal

pub returns-else-is_none-clause-ok : goal.returns-else-is_none-clause-ok
returns-else-is_none-clause-ok g c =
    rw c.skip.ensures (event_read _ _ _ _ c.parse_event.result c.in-Ok-Line.ensures.keeps (rw c.in-Ok-Line.field-0-is at c.in-Ok-Line.ensures.found) (rw c.octets.ensures at c.parse_event.ensures) c.if-is_none.ensures)

pub returns-then-is_none-clause-err : goal.returns-then-is_none-clause-err
returns-then-is_none-clause-err g c =
    fails_read _ _ _ _ _ c.parse_event.result c.in-Ok-Line.ensures.keeps (rw c.in-Ok-Line.field-0-is at c.in-Ok-Line.ensures.found) (rw c.octets.ensures at c.parse_event.ensures) c.if-is_none.ensures

pub returns-in-Ok-Refused-clause-err : goal.returns-in-Ok-Refused-clause-err
returns-in-Ok-Refused-clause-err g c = fails_refused _ _ _ _ c.in-Ok-Refused.ensures.keeps (rw c.in-Ok-Refused.field-0-is at c.in-Ok-Refused.ensures.found)

pub returns-in-Ok-End-clause-ok : goal.returns-in-Ok-End-clause-ok
returns-in-Ok-End-clause-ok g c = end_at _ _ _ c.in-Ok-End.ensures.keeps (rw c.in-Ok-End.field-0-is at c.in-Ok-End.ensures.found)

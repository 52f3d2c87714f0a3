use Rattle.gozdrit_relay.proofs.Beginning.{none_of, some_of}
use Rattle.gozdrit_relay.proofs.learning.packet_in.Goals as goal

pub returns-in-Ok-clause-only : goal.returns-in-Ok-clause-only
returns-in-Ok-clause-only c packet plain spells = some_of c.in-Ok.view packet (c.in-Ok.ensures.only packet spells)

pub returns-in-Err-clause-only : goal.returns-in-Err-clause-only
returns-in-Err-clause-only c packet plain spells = none_of c.in-Err.field-0 packet (c.in-Err.ensures.only packet spells)

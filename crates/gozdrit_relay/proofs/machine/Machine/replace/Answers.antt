use Rattle.std.proofs.Common.{rules, refl}
use Rattle.gozdrit_relay.specs.Machine.{begun, refused}
use Rattle.gozdrit_relay.proofs.machine.Machine.replace.Goals as goal

pub returns-in-Ok : goal.returns-in-Ok
returns-in-Ok g c = begun c.in-Ok.learnt.relay c.in-Ok.learnt.note c.make.new.self c.in-Ok.ensures.makes refl

pub returns-in-Err : goal.returns-in-Err
returns-in-Err g c = refused (search rules)

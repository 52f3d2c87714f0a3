use Rattle.std.proofs.Common.{rules}
use Rattle.relays.proofs.receiving.ReceiveRelay.hear_elsewhere.Goals as goal

pub returns-clause-hears : goal.returns-clause-hears
returns-clause-hears g c = (search rules, c.moves.new.self.far, search rules, search rules)

use Rattle.std.proofs.Common.{rules}
use Rattle.stores.proofs.Bounds.{bound_of_all}
use Rattle.stores.proofs.due.bound.Bound.due_from.Goals as goal

pub returns : goal.returns
returns c = λ rule slot bit is. bound_of_all rule c.args.self.now bit slot (search rules) is

use Rattle.std.proofs.Common.{arith}
use Rattle.std.proofs.lemmas.Nat.{one_shl}
use Rattle.srtp.proofs.Crossing.{exchanged_by, step_below}
use Rattle.srtp.proofs.lanes.exchange.Goals as goal

pub overflow_shr-moved : goal.overflow_shr-moved
overflow_shr-moved c = step_below c.args.t c.requires

pub returns : goal.returns
returns c = λ i m two below.
    exchanged_by c.args.t _ c.args.a c.args.b i m (one_shl c.args.t 32 (omega arith)) c.requires two below

use Rattle.srtp.proofs.Mixing.{lane_sum}
use Rattle.srtp.proofs.rounds.sum.Goals as goal

pub returns : goal.returns
returns c = lane_sum c.args.x.now c.args.y.now

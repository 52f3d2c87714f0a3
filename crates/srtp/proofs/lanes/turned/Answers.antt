use Rattle.srtp.proofs.Crossing.{turned}
use Rattle.srtp.proofs.lanes.turned.Goals as goal

pub returns : goal.returns
returns c = turned c.args.words.now _ _ _ c.cross_0.ensures c.cross_1.ensures c.cross_2.ensures

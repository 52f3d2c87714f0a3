use Rattle.srtp.proofs.Mixing.{lane_doubled}
use Rattle.srtp.proofs.rounds.times_x.Goals as goal

pub returns : goal.returns
returns c = lane_doubled c.args.words.now

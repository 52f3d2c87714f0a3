use Rattle.srtp.proofs.Mixing.{key_added}
use Rattle.srtp.proofs.rounds.add_round_key.Goals as goal

pub returns : goal.returns
returns c = key_added c.args.words.now c.args.key.now _ c.sum.ensures

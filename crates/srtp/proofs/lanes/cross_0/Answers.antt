use Rattle.std.proofs.Common.{arith}
use Rattle.srtp.proofs.Crossing.{all_crossed, picked}
use Rattle.srtp.proofs.lanes.cross_0.Goals as goal

pub returns : goal.returns
returns c = λ i m lt below.
    all_crossed 0 c.args.words.now m _ _ _ _ _ _ _ _
    (picked c.args.words.now 0 0 m _ _ (c.exchange.ensures 0 m (omega arith) below))
    (picked c.args.words.now 0 0 m _ _ (c.exchange.ensures 1 m (omega arith) below))
    (picked c.args.words.now 0 2 m _ _ (c.exchange-2.ensures 0 m (omega arith) below))
    (picked c.args.words.now 0 2 m _ _ (c.exchange-2.ensures 1 m (omega arith) below))
    (picked c.args.words.now 0 4 m _ _ (c.exchange-3.ensures 0 m (omega arith) below))
    (picked c.args.words.now 0 4 m _ _ (c.exchange-3.ensures 1 m (omega arith) below))
    (picked c.args.words.now 0 6 m _ _ (c.exchange-4.ensures 0 m (omega arith) below))
    (picked c.args.words.now 0 6 m _ _ (c.exchange-4.ensures 1 m (omega arith) below))
    i lt

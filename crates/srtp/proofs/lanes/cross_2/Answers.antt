use Rattle.std.proofs.Common.{arith}
use Rattle.srtp.proofs.Crossing.{all_crossed, picked}
use Rattle.srtp.proofs.lanes.cross_2.Goals as goal

pub returns : goal.returns
returns c = λ i m lt below.
    all_crossed 2 c.args.words.now m _ _ _ _ _ _ _ _
    (picked c.args.words.now 2 0 m _ _ (c.exchange.ensures 0 m (omega arith) below))
    (picked c.args.words.now 2 1 m _ _ (c.exchange-2.ensures 0 m (omega arith) below))
    (picked c.args.words.now 2 2 m _ _ (c.exchange-3.ensures 0 m (omega arith) below))
    (picked c.args.words.now 2 3 m _ _ (c.exchange-4.ensures 0 m (omega arith) below))
    (picked c.args.words.now 2 0 m _ _ (c.exchange.ensures 1 m (omega arith) below))
    (picked c.args.words.now 2 1 m _ _ (c.exchange-2.ensures 1 m (omega arith) below))
    (picked c.args.words.now 2 2 m _ _ (c.exchange-3.ensures 1 m (omega arith) below))
    (picked c.args.words.now 2 3 m _ _ (c.exchange-4.ensures 1 m (omega arith) below))
    i lt

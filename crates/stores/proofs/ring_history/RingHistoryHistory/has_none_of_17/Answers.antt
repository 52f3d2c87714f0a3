use Rattle.std.proofs.Common.{sym, arith}
use Rattle.stores.proofs.NoneOf17.{first_is_one, none_but_round}
use Rattle.stores.proofs.ring_history.RingHistoryHistory.has_none_of_17.Goals as goal

pub returns-then-ahead-len : goal.returns-then-ahead-len
returns-then-ahead-len c =
    let before = c.args.self.now in
    let room = before.room in
    let limit = before.limit in
    sym (first_is_one c.args.first (omega arith) before.first c.from-ahead.result before.entries.items before.run (omega arith) (omega arith) (omega arith))

pub returns : goal.returns
returns c =
    let before = c.args.self.now in
    let room = before.room in
    let limit = before.limit in
    none_but_round c.args.first (omega arith) before.first c.from-ahead.result before.entries.items before.run (omega arith) (omega arith) (omega arith) (omega arith)

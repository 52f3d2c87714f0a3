use Rattle.std.proofs.Common.{◌≡◌, ◌+◌, ap, sym, ◌∙◌, arith, Some}
use Rattle.stores.proofs.EntryIndex.{new_is, found_ahead, none_ahead}
use Rattle.stores.proofs.ring_history.RingHistoryHistory.find.Goals as goal

pub returns-then-from-len : goal.returns-then-from-len
returns-then-from-len c =
    let before = c.args.self.now in
    let room = before.room in
    let limit = before.limit in
    let ends = before.ends in
    let found = found_ahead before.first c.args.number c.from.result before.entries.items before.run (omega arith) (omega arith) (omega arith) (omega arith) in
    let same : before.first + c.from-then-from-len.result ≡ before.first + c.from.result = omega arith in
    new_is c.new.result _ (before.first + c.from-then-from-len.result) c.new.ensures (omega arith) ∙ ap Some same ∙ sym found

pub returns-else-from-len : goal.returns-else-from-len
returns-else-from-len c =
    let before = c.args.self.now in
    let room = before.room in
    let limit = before.limit in
    sym (none_ahead before.first c.args.number c.from.result before.entries.items before.run (omega arith) (omega arith) (omega arith) (omega arith))

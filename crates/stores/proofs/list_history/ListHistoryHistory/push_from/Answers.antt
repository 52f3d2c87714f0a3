use Rattle.std.proofs.Common.{◌+◌, ◌-◌, length, arith, refl, ap, length-drop}
use Rattle.stores.specs.Past.{fresh}
use Rattle.stores.proofs.Runs.{next_place, run_after_push}
use Rattle.stores.proofs.list_history.ListHistoryHistory.push_from.Goals as goal

pub overflow_sub-self : goal.overflow_sub-self
overflow_sub-self c =
    let before = c.args.self.now.entries.items in
    let dropped = length-drop (length before + 1 - c.args.self.now.capacity) before in
    let same = ap length c.make_room.ensures.items in
    let next = next_place c.args.self.now.first c.args.place before c.args.self.now.run c.requires in
    grind (arith, dropped, same, next)

pub invariant_of-self-clause-run : goal.invariant_of-self-clause-run
invariant_of-self-clause-run c =
    let before = c.args.self.now.entries.items in
    let n = length before + 1 - c.args.self.now.capacity in
    let next = next_place c.args.self.now.first c.args.place before c.args.self.now.run c.requires in
    run_after_push c.args.self.now.first n c.args.place _ (fresh c.args.place c.of.result) before c.make_room.new.entries.items _ c.args.self.now.run
    (omega arith) next refl (omega arith) c.make_room.ensures.items c.push_reserved.ensures.items (omega arith)

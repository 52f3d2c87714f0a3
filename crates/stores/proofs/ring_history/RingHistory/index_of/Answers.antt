use Rattle.std.proofs.Common.{◌≡◌, ◌+◌, ◌-◌, arith}
use Rattle.stores.proofs.Runs.{within_run, entry_at_index}
use Rattle.stores.proofs.ring_history.RingHistory.index_of.Goals as goal

pub overflow_sub-result : goal.overflow_sub-result
overflow_sub-result c = let at = within_run c.args.self.now.first c.args.place c.args.self.now.entries.items c.args.self.now.run c.requires in omega arith

pub returns : goal.returns
returns c =
    let at = within_run c.args.self.now.first c.args.place c.args.self.now.entries.items c.args.self.now.run c.requires in
    let above : c.args.place ≡ c.args.self.now.first + (c.value.result - c.args.self.now.first) = omega arith in
    record { within = omega arith; place = above; entry = entry_at_index c.args.self.now.first c.args.place _ c.args.self.now.entries.items c.args.self.now.run above }

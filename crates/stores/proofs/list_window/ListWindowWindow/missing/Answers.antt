use Rattle.std.proofs.Common.{sym, ◌∙◌}
use Rattle.stores.proofs.Counting.{count_of_slots}
use Rattle.stores.proofs.list_window.ListWindowWindow.missing.Goals as goal

pub returns : goal.returns
returns c =
    let all = rw c.as_slice.ensures.value at c.count_missing.ensures in
    all ∙ sym (count_of_slots c.args.self.now.cursor _ c.args.self.now.capacity c.args.self.now.unstarted)

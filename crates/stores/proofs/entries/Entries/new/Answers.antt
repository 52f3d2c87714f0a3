use Rattle.stores.proofs.EntryNumbers.{no_entries}
use Rattle.stores.proofs.entries.Entries.new.Goals as goal

pub invariant_of-result : goal.invariant_of-result
invariant_of-result c =
    no_entries c.in_ok-order.order c.in_ok-list.list.items c.args.capacity _ c.in_ok-order.ensures c.in_ok-list.ensures.items c.requires.nonzero c.requires.limit c.in_ok-list.ensures.capacity

use Rattle.std.proofs.Common.{arith}
use Rattle.stores.specs.Past.{unmarked}
use Rattle.stores.proofs.EntryNumbers.{number_known, change_kept, change_seen}
use Rattle.stores.proofs.entries.Entries.unmark.Goals as goal

pub index_mut-requires : goal.index_mut-requires
index_mut-requires c =
    let fields = c.self.inside in
    let known = number_known fields.order fields.list.items _ c.args.self.now c.self.invariant c.self.view_is c.args.index c.number_at-at.result c.number_at-at.ensures in
    omega (arith, known)

pub invariant_of-self : goal.invariant_of-self
invariant_of-self c =
    let fields = c.self.inside in
    change_kept fields.order fields.list.items _ c.args.self.now c.self.invariant c.self.view_is c.number_at-at.result (unmarked c.index_mut.result.now)

pub returns : goal.returns
returns c =
    let fields = c.self.inside in
    change_seen fields.order fields.list.items _ c.args.self.now c.self.invariant c.self.view_is unmarked c.args.index c.number_at-at.result c.index_mut.result.now c.number_at-at.ensures c.index_mut.ensures.value

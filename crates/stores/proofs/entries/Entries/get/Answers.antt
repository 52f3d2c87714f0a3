use Rattle.std.proofs.Common.{arith}
use Rattle.stores.proofs.EntryNumbers.{number_known, entry_read}
use Rattle.stores.proofs.entries.Entries.get.Goals as goal

pub index-requires : goal.index-requires
index-requires c =
    let fields = c.self.inside in
    let known = number_known fields.order fields.list.items _ c.args.self.now c.self.invariant c.self.view_is c.args.index c.number_at-at.result c.number_at-at.ensures in
    omega (arith, known)

pub returns : goal.returns
returns c =
    let fields = c.self.inside in
    entry_read fields.order fields.list.items _ c.args.self.now c.self.invariant c.self.view_is c.args.index c.number_at-at.result c.index.result.now c.number_at-at.ensures c.index.ensures

use Rattle.std.proofs.Common.{Option, IsSomeAnd, subst, arith}
use Rattle.stores.specs.declared.entry.HistoryEntry.{HistoryEntry}
use Rattle.stores.specs.Past.{repeated, CanBeRepeated}
use Rattle.stores.proofs.EntryNumbers.{number_known, entry_read, change_kept, change_seen}
use Rattle.stores.proofs.entries.Entries.count_repeat.Goals as goal

pub index_mut-entry-requires : goal.index_mut-entry-requires
index_mut-entry-requires c =
    let fields = c.self.inside in
    let known = number_known fields.order fields.list.items _ c.args.self.now c.self.invariant c.self.view_is c.args.index c.number_at-at.result c.number_at-at.ensures in
    omega (arith, known)

pub overflow_add-entry : goal.overflow_add-entry
overflow_add-entry c =
    let fields = c.self.inside in
    let read = entry_read fields.order fields.list.items _ c.args.self.now c.self.invariant c.self.view_is c.args.index c.number_at-at.result c.index_mut-entry.result.now c.number_at-at.ensures c.index_mut-entry.ensures.value in
    let few : CanBeRepeated c.index_mut-entry.result.now = subst (λ (o : Option HistoryEntry). IsSomeAnd o CanBeRepeated) read c.requires.few in
    omega (arith, few)

pub invariant_of-self : goal.invariant_of-self
invariant_of-self c =
    let fields = c.self.inside in
    change_kept fields.order fields.list.items _ c.args.self.now c.self.invariant c.self.view_is c.number_at-at.result (repeated c.index_mut-entry.result.now)

pub returns : goal.returns
returns c =
    let fields = c.self.inside in
    change_seen fields.order fields.list.items _ c.args.self.now c.self.invariant c.self.view_is repeated c.args.index c.number_at-at.result c.index_mut-entry.result.now c.number_at-at.ensures c.index_mut-entry.ensures.value

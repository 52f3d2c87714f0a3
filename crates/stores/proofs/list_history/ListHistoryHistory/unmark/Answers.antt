use Rattle.std.proofs.Common.{ap, refl, List}
use Rattle.std.proofs.lemmas.Option.{slice_get_read}
use Rattle.stores.specs.declared.entry.HistoryEntry.{HistoryEntry}
use Rattle.stores.specs.Past.{unmarked}
use Rattle.stores.proofs.Runs.{set_is_change}
use Rattle.stores.proofs.list_history.ListHistoryHistory.unmark.Goals as goal

pub returns : goal.returns
returns c =
    let entries = c.args.self.now.entries.items in
    let found = slice_get_read entries _ c.index_of-index.result c.index_mut.result.now refl c.index_of-index.ensures.within c.index_mut.ensures.value in
    let e = set_is_change unmarked c.args.self.now.first c.index_of-index.result c.args.place c.index_mut.result.now entries c.args.self.now.run c.index_of-index.ensures.place found in
    ap (λ (xs : List HistoryEntry). record { entries = xs; capacity = c.args.self.now.capacity }) e

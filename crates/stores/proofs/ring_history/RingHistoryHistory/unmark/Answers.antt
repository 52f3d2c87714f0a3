use Rattle.std.proofs.Common.{◌+◌, ◌≤◌, ◌^◌, length, ap, sym, subst, ◌∙◌, refl}
use Rattle.circular_buffer.specs.Buffer.{Buffer}
use Rattle.stores.specs.declared.entry.HistoryEntry.{HistoryEntry}
use Rattle.stores.specs.Bits.{IsSetOf}
use Rattle.stores.specs.Past.{IsRun, unmarked}
use Rattle.stores.specs.PastByPlace.{is_marked}
use Rattle.stores.proofs.EntryNumbers.{entry_changed}
use Rattle.stores.proofs.Runs.{set_is_change, run_set, ends_set}
use Rattle.stores.proofs.SetOfItems.{set_after_change}
use Rattle.stores.proofs.ring_history.RingHistoryHistory.unmark.Goals as goal

pub invariant_of-self-clause-run : goal.invariant_of-self-clause-run
invariant_of-self-clause-run c =
    let before = c.args.self.now in
    let changed = entry_changed unmarked c.index_of-index.result before.entries c.unmark.new.self c.unmark.ensures in
    let at = before.run c.index_of-index.result changed.0 changed.1 in
    subst (λ (b : Buffer HistoryEntry). IsRun before.first b.items) (sym changed.2)
    (run_set before.first c.index_of-index.result (unmarked changed.0) before.entries.items before.run c.index_of-index.ensures.within at.0 at.1)

pub invariant_of-self-clause-ends : goal.invariant_of-self-clause-ends
invariant_of-self-clause-ends c =
    let before = c.args.self.now in
    let changed = entry_changed unmarked c.index_of-index.result before.entries c.unmark.new.self c.unmark.ensures in
    subst (λ (b : Buffer HistoryEntry). before.first + length b.items ≤ 2 ^ 48) (sym changed.2)
    (ends_set before.first c.index_of-index.result (unmarked changed.0) before.entries.items before.ends)

pub invariant_of-self-clause-agree : goal.invariant_of-self-clause-agree
invariant_of-self-clause-agree c =
    let before = c.args.self.now in
    let changed = entry_changed unmarked c.index_of-index.result before.entries c.unmark.new.self c.unmark.ensures in
    subst (λ (b : Buffer HistoryEntry). IsSetOf is_marked c.clear.new.self.words.items c.clear.new.self.front b.items) (sym changed.2)
    (set_after_change is_marked before.marks.words.items c.clear.new.self.words.items before.marks.front c.clear.new.self.front before.entries.items c.index_of-index.result (unmarked changed.0) _
    c.index_of-index.ensures.within c.clear.ensures.words c.clear.ensures.members refl before.agree)

pub returns : goal.returns
returns c =
    let before = c.args.self.now in
    let changed = entry_changed unmarked c.index_of-index.result before.entries c.unmark.new.self c.unmark.ensures in
    ap (λ (b : Buffer HistoryEntry). record { entries = b.items; capacity = b.capacity }) changed.2
    ∙ ap (λ xs. record { entries = xs; capacity = before.entries.capacity })
    (set_is_change unmarked before.first c.index_of-index.result c.args.place changed.0 before.entries.items before.run c.index_of-index.ensures.place changed.1)

use Rattle.std.proofs.Common.{◌≡◌, ◌+◌, ◌-◌, ◌++◌, ◌∷◌, [], List, length, drop, slice_set, sym, ap, ◌∙◌, arith}
use Rattle.circular_buffer.specs.Buffer.{Buffer}
use Rattle.stores.specs.declared.entry.HistoryEntry.{HistoryEntry}
use Rattle.stores.specs.Past.{fresh}
use Rattle.stores.specs.Entries.{entries_in}
use Rattle.stores.proofs.Numbers.{last_below}
use Rattle.stores.proofs.EntryNumbers.{entry_count, entries_last}
use Rattle.stores.proofs.entries.Entries.push.Goals as goal

pub index_mut-requires : goal.index_mut-requires
index_mut-requires c =
    let freed = c.free_number-number in
    let known = last_below freed.new.order.items freed.result _ freed.ensures.numbers in
    omega (arith, known, c.from.ensures)

pub returns : goal.returns
returns c =
    let list = c.self.inside.list.items in
    let order = c.self.inside.order in
    let freed = c.free_number-number in
    let left = freed.new.list.items in
    let x = fresh c.args.place c.args.carried.now in
    let written : slice_set left c.from.result c.renew.new.entry ≡ slice_set left freed.result x =
    ap (λ n. slice_set left n c.renew.new.entry) c.from.ensures ∙ ap (slice_set left freed.result) c.renew.ensures in
    let count : length order.items + 1 - order.capacity ≡ length (entries_in list order.items) + 1 - order.capacity = ap (λ n. n + 1 - order.capacity) (sym (entry_count list order.items)) in
    let seen : entries_in (slice_set left c.from.result c.renew.new.entry) c.append.new.ring.items ≡ drop (length c.args.self.now.items + 1 - c.args.self.now.capacity) c.args.self.now.items ++ x ∷ [] =
    ap (λ (xs : List HistoryEntry). entries_in xs c.append.new.ring.items) written ∙ ap (entries_in (slice_set left freed.result x)) c.append.ensures.items
    ∙ entries_last left freed.new.order.items freed.result x freed.ensures.numbers
    ∙ ap (λ (xs : List HistoryEntry). xs ++ x ∷ []) (freed.ensures.entries ∙ ap (λ n. drop n (entries_in list order.items)) count)
    ∙ ap (λ (b : Buffer HistoryEntry). drop (length b.items + 1 - b.capacity) b.items ++ x ∷ []) c.self.view_is in
    let size = c.append.ensures.capacity ∙ freed.ensures.order_capacity ∙ ap (λ (b : Buffer HistoryEntry). b.capacity) c.self.view_is in
    cc (seen, size)

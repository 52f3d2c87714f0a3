use Rattle.std.proofs.Common.{◌+◌, ◌<◌, sym, ◌∙◌, arith}
use Rattle.stores.specs.Bits.{bits_of}
use Rattle.stores.proofs.EntryIndex.{new_is, marked_within, least_at, least_none}
use Rattle.stores.proofs.ring_history.RingHistoryHistory.least_marked.Goals as goal

pub returns-in_err-index : goal.returns-in_err-index
returns-in_err-index c =
    let before = c.args.self.now in
    let room = before.room in
    let wide = before.wide in
    let none = c.in_err-index.ensures in
    c.from_residual.ensures
    ∙ sym (least_none before.entries.items (λ j l. let within : j < bits_of before.marks.words.items = omega arith in sym (before.agree j within) ∙ none j within))

pub returns : goal.returns
returns c =
    let before = c.args.self.now in
    let ends = before.ends in
    let first = c.in_ok-index.ensures in
    let below = first.0 in
    let marked = sym (before.agree c.in_ok-index.index first.0) ∙ first.1 in
    let within = marked_within before.entries.items c.in_ok-index.index marked in
    new_is c.new.result _ (before.first + c.in_ok-index.index) c.new.ensures (omega arith)
    ∙ sym (least_at before.first c.in_ok-index.index before.entries.items before.run marked (λ j l. sym (before.agree j (omega arith)) ∙ first.2 j l))

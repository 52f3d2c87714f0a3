use Rattle.std.proofs.Common.{◌≡◌, ◌∙◌, ◌++◌, ap, sym, subst, refl, arith, replicate}
use Rattle.stores.specs.Put.{noticed_at}
use Rattle.stores.specs.Index.{IsIndex}
use Rattle.stores.proofs.MissingIndex.{index_adds, index_none}
use Rattle.stores.proofs.ring_window.add_missing.Goals as goal

pub set_range-requires-clause-none : goal.set_range-requires-clause-none
set_range-requires-clause-none c = λ p above below.
    let before = c.args.missing.now in
    let room = c.requires.room in
    let wide = c.requires.wide in
    let count = c.len.ensures.len in
    index_none before.words.items before.front c.args.slots.now.items p c.requires.index (omega arith) (omega arith)

pub returns-clause-index : goal.returns-clause-index
returns-clause-index c =
    let before = c.args.missing.now in
    let after = c.set_range.new.self in
    let slots = c.args.slots.now.items in
    let missing = noticed_at c.args.now in
    let all : c.added.counter ≡ c.args.count = omega arith in
    let items = c.added.invariant.items ∙ ap (λ n. slots ++ replicate n missing) all in
    let is = index_adds before.words.items after.words.items before.front after.front c.args.count slots missing c.set_range.ensures.words refl (rw c.len.ensures.len at c.set_range.ensures.members) c.set_range.ensures.size c.requires.index in
    subst (λ xs. IsIndex after.words.items after.front xs) (sym items) is

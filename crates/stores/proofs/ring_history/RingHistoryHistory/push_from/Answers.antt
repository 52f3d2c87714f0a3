use Rattle.std.proofs.Common.{◌+◌, ◌-◌, [], ◌∷◌, length, drop, ap, sym, ◌∙◌, subst, refl, arith, length-append}
use Rattle.circular_buffer.specs.Buffer.{Buffer}
use Rattle.stores.specs.declared.entry.HistoryEntry.{HistoryEntry}
use Rattle.stores.specs.Past.{fresh}
use Rattle.stores.specs.PastByPlace.{is_marked}
use Rattle.stores.specs.Bits.{IsSetOf}
use Rattle.stores.proofs.Runs.{next_place, run_after_push}
use Rattle.stores.proofs.SetOfItems.{set_after_push}
use Rattle.stores.proofs.ring_history.RingHistoryHistory.push_from.Goals as goal

pub invariant_of-self-clause-run : goal.invariant_of-self-clause-run
invariant_of-self-clause-run c =
    let before = c.args.self.now in
    let items = before.entries.items in
    let n = length items + 1 - before.entries.capacity in
    let room = before.room in
    let nonzero = before.nonzero in
    let next = next_place before.first c.args.place items before.run c.requires in
    let pushed = ap (λ (b : Buffer HistoryEntry). b.items) c.push.ensures in
    let long = ap length pushed ∙ length-append (drop n items) (fresh c.args.place c.args.carried.now ∷ []) in
    let len = c.len.ensures.len in
    run_after_push before.first n c.args.place _ (fresh c.args.place c.args.carried.now) items (drop n items) _ before.run
    (omega arith) next refl (omega arith) refl pushed (omega arith)

pub invariant_of-self-clause-agree : goal.invariant_of-self-clause-agree
invariant_of-self-clause-agree c =
    let before = c.args.self.now in
    let items = before.entries.items in
    let marks = c.make_room-self.new.marks in
    let kept = drop (length items + 1 - before.entries.capacity) items in
    let is = set_after_push is_marked marks.words.items marks.front kept (fresh c.args.place c.args.carried.now) refl refl c.make_room-self.ensures.agree in
    subst (λ (b : Buffer HistoryEntry). IsSetOf is_marked marks.words.items marks.front b.items) (sym c.push.ensures) is

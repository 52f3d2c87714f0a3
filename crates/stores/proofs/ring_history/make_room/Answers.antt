use Rattle.std.proofs.Common.{◌≡◌, ◌+◌, ◌-◌, drop, length, subst, refl, arith}
use Rattle.stores.specs.PastByPlace.{is_marked}
use Rattle.stores.specs.Bits.{IsSetOf}
use Rattle.stores.proofs.SetOfItems.{set_after_drop}
use Rattle.stores.proofs.ring_history.make_room.Goals as goal

pub returns-then-len-capacity-clause-agree : goal.returns-then-len-capacity-clause-agree
returns-then-len-capacity-clause-agree c =
    let before = c.args.marks.now in
    let after = c.shift.new.self in
    let items = c.args.entries.now.items in
    let room = c.requires.room in
    let wide = c.requires.wide in
    let len = c.len.ensures.len in
    let capacity = c.capacity.ensures in
    let full = c.if-len-capacity.true in
    let is = set_after_drop is_marked before.words.items after.words.items before.front after.front items c.shift.ensures.words (omega arith) refl c.shift.ensures.members c.requires.agree in
    let one : 1 ≡ length items + 1 - c.args.entries.now.capacity = omega arith in
    subst (λ n. IsSetOf is_marked after.words.items after.front (drop n items)) one is

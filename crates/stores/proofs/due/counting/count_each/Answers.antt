use Rattle.std.proofs.Common.{◌∙◌, length, slice_get, List, ap, sym, subst, refl, rules, arith}
use Rattle.std.proofs.lemmas.Grind.{common_steps}
use Rattle.stores.specs.declared.slot.Slot.{Slot}
use Rattle.stores.specs.Index.{IsIndex}
use Rattle.stores.specs.Bound.{AreBoundsBut, AreDueFrom}
use Rattle.stores.proofs.AskedBlocks.{bound_asked, due_asked, bound_but_none, due_from_none}
use Rattle.stores.proofs.SlotPlaces.{asked_long}
use Rattle.stores.proofs.MissingIndex.{index_asked}
use Rattle.stores.proofs.due.counting.count_each.Goals as goal

pub loop-place-init : goal.loop-place-init
loop-place-init c = record {
  left = refl;
  askable = c.requires.askable;
  len = refl;
  capacity = refl;
  index = c.requires.index;
  blocks = c.requires.blocks;
  turned = search rules;
  bound = bound_but_none c.args.rule 0 c.args.bounds.now.items c.args.missing.now.front c.args.slots.now.items c.requires.bound;
  due = due_from_none c.args.rule 0 c.time_from-again.result (length c.args.missing.now.words.items) c.args.missing.now.front c.args.slots.now.items;
}

pub turn_to-requires-clause-index : goal.turn_to-requires-clause-index
turn_to-requires-clause-index c =
    let room = c.requires.room in
    let within = c.ask_one-index.ensures.within in
    let same = c.loop-place.invariant.len in
    omega arith

pub bit_in_word-requires : goal.bit_in_word-requires
bit_in_word-requires c =
    let room = c.requires.room in
    let within = c.ask_one-index.ensures.within in
    let same = c.loop-place.invariant.len in
    omega arith

pub loop-place-preserved : goal.loop-place-preserved
loop-place-preserved c =
    let before = c.loop-place.slots.items in
    let index = c.ask_one-index.result in
    let missing = c.args.missing.now in
    let words = length missing.words.items in
    let bounds = c.turn_to.new.bounds.items in
    let turned = c.turn_to.new.self in
    let rule = c.args.rule in
    let items = c.ask_one-index.ensures.items in
    let long = asked_long before index c.args.now (slice_get before index) in
    let room = c.requires.room in
    let same = c.loop-place.invariant.len in
    let count = c.turn_to.ensures.blocks ∙ c.loop-place.invariant.blocks in
    let at = c.turn_to.ensures.word in
    let asked_so_far = subst (λ n. AreDueFrom c.loop-place.asked.word c.loop-place.asked.bits rule c.time_from-again.result n missing.front before) (sym c.loop-place.invariant.blocks) c.loop-place.invariant.due in
    let bound = c.turn_to.ensures.bound rule missing.front before c.loop-place.invariant.bound asked_so_far in
    let asked = c.turn_to.ensures.asked rule words missing.front before c.loop-place.invariant.due in
    record {
      left = grind (arith, common_steps);
      askable = grind (arith, common_steps);
      len = ap length items ∙ long ∙ same;
      capacity = c.ask_one-index.ensures.capacity ∙ c.loop-place.invariant.capacity;
      index = subst (λ (xs : List Slot). IsIndex missing.words.items missing.front xs) (sym items) (index_asked missing.words.items missing.front before index c.args.now c.ask_one-index.ensures.askable c.loop-place.invariant.index);
      blocks = count;
      turned = c.turn_to.ensures.turned;
      bound = subst (λ (xs : List Slot). AreBoundsBut turned.word c.with_bit.result rule bounds missing.front xs) (sym items)
          (bound_asked rule bounds missing.front turned.word turned.bits c.with_bit.result index c.args.now before (search rules) (search rules) bound);
      due = subst (λ (xs : List Slot). AreDueFrom turned.word c.with_bit.result rule c.time_from-again.result words missing.front xs) (sym items)
          (due_asked rule c.time_from-again.result words missing.front turned.word turned.bits c.with_bit.result index c.args.now before missing.within (omega arith) c.ask_one-index.ensures.within
          at (search rules) c.ask_one-index.ensures.askable c.time_from-again.ensures asked);
    }

pub returns-clause-bound : goal.returns-clause-bound
returns-clause-bound c =
    let missing = c.args.missing.now in
    let slots = c.loop-place.slots.items in
    let asked_so_far = subst (λ n. AreDueFrom c.loop-place.asked.word c.loop-place.asked.bits c.args.rule c.time_from-again.result n missing.front slots) (sym c.loop-place.invariant.blocks) c.loop-place.invariant.due in
    c.note_asks.ensures.bound c.args.rule missing.front slots c.loop-place.invariant.bound asked_so_far

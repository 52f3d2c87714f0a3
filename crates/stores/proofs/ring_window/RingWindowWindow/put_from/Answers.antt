use Rattle.std.proofs.Common.{◌≡◌, ◌+◌, ◌^◌, ◌<◌, ◌≤◌, ◌∙◌, ap, length, length-set, List, [], ◌∷◌, ◌++◌, replicate, slice_get, slice_set, true, false, rules, refl, sym, subst, arith}
use Rattle.std.specs.Option.{ForSome}
use Rattle.circular_buffer.specs.Buffer.{Buffer}
use Rattle.stores.specs.declared.slot.Slot.{Slot}
use Rattle.stores.specs.declared.slot.Slot.TheVariants.{Held}
use Rattle.stores.specs.Asking.{is_missing}
use Rattle.stores.specs.Bits.{bits_of}
use Rattle.stores.specs.Index.{IsIndex}
use Rattle.stores.proofs.Lookup.{slice_get-set_other}
use Rattle.stores.proofs.SlotPlaces.{started_set}
use Rattle.stores.proofs.MissingIndex.{index_hold, index_push}
use Rattle.stores.specs.Put.{noticed_at}
use Rattle.stores.specs.Foreseen.{Tells}
use Rattle.stores.specs.Bound.{AreBounds}
use Rattle.stores.proofs.Bounds.{bound_hold, bound_push}
use Rattle.stores.proofs.PutPlaces.{answer_above, answer_held}
use Rattle.stores.proofs.Soonest.{soonest_push}
use Rattle.stores.proofs.ring_window.RingWindowWindow.put_from.Goals as goal

pub invariant_of-self-in-Within-clause-started : goal.invariant_of-self-in-Within-clause-started
invariant_of-self-in-Within-clause-started c =
    let before = c.args.self.now in
    subst (λ (xs : List Slot). ForSome before.cursor (λ k. (0 < k + length xs) × (k + length xs ≤ 2 ^ 48))) (sym (ap (λ (b : Buffer Slot). b.items) c.hold.ensures))
    (started_set before.cursor before.slots.items c.in-Within.index (Held c.args.carried.now) before.started)

pub invariant_of-self-in-Within-clause-index : goal.invariant_of-self-in-Within-clause-index
invariant_of-self-in-Within-clause-index c =
    let before = c.args.self.now in
    let index = c.in-Within.index in
    let room = before.room in
    let wide = before.wide in
    let within : index < length before.slots.items = search rules in
    let below : index < bits_of before.missing.words.items = omega arith in
    let missing : is_missing (slice_get before.slots.items index) ≡ true = sym (before.index.0 index below) ∙ sym c.contains.ensures ∙ c.if-not-contains.false in
    subst (λ (xs : List Slot). IsIndex c.clear.new.self.words.items c.clear.new.self.front xs) (sym (ap (λ (b : Buffer Slot). b.items) c.hold.ensures))
    (index_hold before.missing.words.items c.clear.new.self.words.items before.missing.front c.clear.new.self.front before.slots.items index (Held c.args.carried.now)
    c.clear.ensures.words missing refl below c.clear.ensures.members c.clear.ensures.size before.index)

pub invariant_of-self-in-Above-clause-index : goal.invariant_of-self-in-Above-clause-index
invariant_of-self-in-Above-clause-index c =
    let missing = c.add_missing.new.missing in
    let is = index_push missing.words.items missing.front c.add_missing.new.slots.items (Held c.args.carried.now) refl c.add_missing.ensures.index in
    subst (λ (xs : List Slot). IsIndex missing.words.items missing.front xs) (sym (ap (λ (b : Buffer Slot). b.items) c.append_held-in-Above.ensures)) is

pub invariant_of-self-in-Within-clause-bound : goal.invariant_of-self-in-Within-clause-bound
invariant_of-self-in-Within-clause-bound c =
    let before = c.args.self.now in
    let index = c.in-Within.index in
    let within : index < length before.slots.items = search rules in
    let is = bound_hold before.rule before.bounds.items before.missing.front before.slots.items index c.args.carried.now within before.bound in
    subst (λ (xs : List Slot). AreBounds before.rule before.bounds.items c.clear.new.self.front xs) (sym (ap (λ (b : Buffer Slot). b.items) c.hold.ensures))
    (subst (λ front. AreBounds before.rule before.bounds.items front (slice_set before.slots.items index (Held c.args.carried.now))) (sym c.clear.ensures.front) is)

pub invariant_of-self-in-Above-clause-bound : goal.invariant_of-self-in-Above-clause-bound
invariant_of-self-in-Above-clause-bound c =
    let missing = c.add_missing.new.missing in
    let bounds = c.add_missing.new.bounds.items in
    let is = bound_push c.args.self.now.rule bounds missing.front c.add_missing.new.slots.items c.args.carried.now c.add_missing.ensures.bound in
    subst (λ (xs : List Slot). AreBounds c.args.self.now.rule bounds missing.front xs) (sym (ap (λ (b : Buffer Slot). b.items) c.append_held-in-Above.ensures)) is

pub returns-in-Above-clause-answer : goal.returns-in-Above-clause-answer
returns-in-Above-clause-answer c =
    let before = c.args.self.now in
    answer_above before.cursor before.slots.items before.slots.capacity c.in-Some.cursor c.args.place c.in-Above.overrun c.in-Above.unseen (search rules) (search rules)

pub invariant_of-self-in-Above-clause-told : goal.invariant_of-self-in-Above-clause-told
invariant_of-self-in-Above-clause-told c = λ answer kept.
    let before = c.args.self.now in
    let told = c.with_jump-self.ensures before.slots.items c.args.carried.now (sym c.len-in-Above.ensures.len) before.told answer kept in
    let rest = c.add_missing.ensures.items ∙ ap (λ xs. xs ++ replicate c.in-Above.unseen (noticed_at c.args.now)) c.drop_front.ensures.items in
    subst (Tells answer) (sym (ap (λ (b : Buffer Slot). b.items) c.append_held-in-Above.ensures ∙ ap (λ xs. xs ++ Held c.args.carried.now ∷ []) rest)) told

pub invariant_of-self-in-Within-clause-told : goal.invariant_of-self-in-Within-clause-told
invariant_of-self-in-Within-clause-told c =
    let before = c.args.self.now in
    let index = c.in-Within.index in
    let items = ap (λ (b : Buffer Slot). b.items) c.hold.ensures in
    let long = length-set before.slots.items index (Held c.args.carried.now) in
    c.with_change-self.ensures before.slots.items (sym (ap length items ∙ long))
    (λ p apart. ap (λ xs. slice_get xs p) items ∙ slice_get-set_other before.slots.items index p (Held c.args.carried.now) apart)
    c.beside-self.ensures

-- no slot is there yet, and a held one comes
pub invariant_of-self-clause-told : goal.invariant_of-self-clause-told
invariant_of-self-clause-told c = λ answer kept.
    let slots = c.args.self.now.slots.items in
    subst (Tells answer) (sym (ap (λ (b : Buffer Slot). b.items) c.append_held.ensures)) (soonest_push answer.rule answer.soonest slots (Held c.args.carried.now) refl (c.args.self.now.told answer kept))

pub returns-then-not-contains-clause-answer : goal.returns-then-not-contains-clause-answer
returns-then-not-contains-clause-answer c =
    let before = c.args.self.now in
    let index = c.in-Within.index in
    let room = before.room in
    let wide = before.wide in
    let within : index < length before.slots.items = search rules in
    let below : index < bits_of before.missing.words.items = omega arith in
    let held : is_missing (slice_get before.slots.items index) ≡ false = sym (before.index.0 index below) ∙ sym c.contains.ensures ∙ c.if-not-contains.true in
    answer_held before.cursor before.slots.items before.slots.capacity c.in-Some.cursor c.args.place index (search rules) (search rules) within held

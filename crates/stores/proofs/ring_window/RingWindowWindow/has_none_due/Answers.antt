use Rattle.std.proofs.Common.{◌≡◌, ℕ, ◌^◌, ◌<◌, [], List, Option, Bool, true, false, length, not, ap, sym, subst, ◌∙◌, refl}
use Rattle.std.specs.Prelude.{IsTrue}
use Rattle.std.specs.Option.{ForNone}
use Rattle.stores.specs.declared.due.foreseen.Soonest.{Soonest}
use Rattle.stores.specs.declared.ask_rule.AskRule.{AskRule}
use Rattle.stores.specs.declared.slot.Slot.{Slot}
use Rattle.stores.specs.Asking.{has_come, due_places}
use Rattle.stores.specs.Foreseen.{soonest_moment, IsSoonest}
use Rattle.stores.proofs.NextDue.{next_of_slots}
use Rattle.stores.proofs.Soonest.{soonest_any}
use Rattle.stores.proofs.ring_window.RingWindowWindow.has_none_due.Goals as goal

-- no place is due before the least moment
none_yet : (cursor : Option ℕ) (slots : List Slot) (capacity now : ℕ) (rule : AskRule) (soonest : Option Soonest) → ForNone cursor (length slots ≡ 0) → now < 2 ^ 64 →
    IsSoonest rule soonest slots (length slots) → has_come (soonest_moment soonest) now ≡ false →
    due_places (record { cursor = cursor; slots = slots; capacity = capacity }) now rule.delay rule.retry rule.asks ≡ []
none_yet cursor slots capacity now rule soonest none fits is later =
    let next = next_of_slots cursor slots capacity rule.delay rule.retry rule.asks (soonest_moment soonest) none (λ at within. soonest_any rule soonest slots is at within) in
    (next now fits).1 later

not_true : (b : Bool) → IsTrue (not b) → b ≡ false
not_true true is = absurd cc
not_true false is = refl

pub returns-in-Some : goal.returns-in-Some
returns-in-Some c = λ none.
    let w = c.args.self.now in
    let answer = c.in-Some.answer in
    let told = subst (λ (r : AskRule). IsSoonest r answer.soonest w.slots.items (length w.slots.items)) (c.in-Some.ensures.rule answer refl) (c.in-Some.ensures.told answer refl) in
    let later = ap (λ m. has_come m c.args.now) (sym c.soonest_moment.ensures) ∙ sym c.has_come.ensures ∙ not_true c.has_come.result none in
    none_yet w.cursor w.slots.items w.slots.capacity c.args.now c.args.rule answer.soonest w.unstarted c.ranges.now.fits told later

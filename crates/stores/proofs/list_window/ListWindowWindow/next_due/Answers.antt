use Rattle.std.proofs.Common.{◌≡◌, ℕ, ◌^◌, ◌<◌, List, length, slice_get, subst}
use Rattle.stores.specs.declared.slot.Slot.{Slot}
use Rattle.stores.specs.Asking.{is_due, has_come, any_below}
use Rattle.stores.proofs.NextDue.{next_of_slots}
use Rattle.stores.proofs.list_window.ListWindowWindow.next_due.Goals as goal

pub returns : goal.returns
returns c =
    let w = c.args.self.now in
    let rule = c.args.rule in
    next_of_slots w.cursor w.slots.items w.capacity rule.delay rule.retry rule.asks c.next_among.result w.unstarted
    (subst (λ (slots : List Slot). (now : ℕ) → now < 2 ^ 64 → has_come c.next_among.result now ≡ any_below (λ i. is_due now rule.delay rule.retry rule.asks (slice_get slots i)) (length slots)) c.as_slice.ensures.value c.next_among.ensures)

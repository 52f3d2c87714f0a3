use Rattle.std.proofs.Common.{◌∙◌, ap}
use Rattle.stores.specs.Asking.{has_come}
use Rattle.stores.proofs.NextDue.{next_of_slots}
use Rattle.stores.proofs.Soonest.{soonest_any}
use Rattle.stores.proofs.ring_window.RingWindowWindow.next_due.Goals as goal

pub returns : goal.returns
returns c =
    let w = c.args.self.now in
    let rule = c.args.rule in
    next_of_slots w.cursor w.slots.items w.slots.capacity rule.delay rule.retry rule.asks c.soonest_moment.result w.unstarted
    (λ now fits. ap (λ m. has_come m now) c.soonest_moment.ensures ∙ soonest_any rule c.soonest.result w.slots.items c.soonest.ensures now fits)

use Rattle.std.proofs.Common.{◌≡◌, ℕ, ◌^◌, ◌<◌, slice_get}
use Rattle.stores.specs.Asking.{is_due, has_come, any_below}
use Rattle.stores.proofs.list_window.next_among.Given as goal

abbrev pub invariant-loop-slot : goal.invariant-loop-slot
invariant-loop-slot l = (now : ℕ) → now < 2 ^ 64 → has_come l.least now ≡ any_below (λ i. is_due now l.rule.delay l.rule.retry l.rule.asks (slice_get l.slots i)) l.slot-index

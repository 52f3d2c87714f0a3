-- The answer that a window keeps.
use Rattle.std.specs.Prelude.{◌≡◌, ℕ, ◌^◌, ◌<◌, ◌≤◌, Bool, true, List, length, slice_get, Option, Some, None}
use Rattle.std.specs.Option.{ForSome}
use Rattle.stores.specs.declared.due.foreseen.Foreseen.{Foreseen}
use Rattle.stores.specs.declared.due.foreseen.Soonest.{Soonest}
use Rattle.stores.specs.declared.ask_rule.AskRule.{AskRule}
use Rattle.stores.specs.declared.slot.Slot.{Slot}
use Rattle.stores.specs.Asking.{is_due, has_come}

abbrev pub soonest_moment : Option Soonest → Option ℕ
soonest_moment None = None
soonest_moment (Some soonest) = Some soonest.moment

-- whether the slot at the index i is due at the moment `now`
abbrev pub due_by : AskRule → List Slot → (now i : ℕ) → Bool
due_by rule slots now i = is_due now rule.delay rule.retry rule.asks (slice_get slots i)

-- what is named is due from its moment on
abbrev pub Serves : (ℕ → ℕ → Bool) → Option Soonest → Type 0
Serves due soonest = ForSome soonest (λ s. (now : ℕ) → now < 2 ^ 64 → s.moment ≤ now → due now s.index ≡ true)

-- None of so many first slots is due by the rule before the moment, and the named slot is from it on.
pub record IsSoonest (rule : AskRule) (soonest : Option Soonest) (slots : List Slot) (count : ℕ) : Type 0 where
  pub not_before : (i now : ℕ) → i < count → now < 2 ^ 64 → due_by rule slots now i ≡ true → has_come (soonest_moment soonest) now ≡ true
  pub serves : Serves (due_by rule slots) soonest

-- the answer is true of these slots
abbrev pub Tells : Foreseen → List Slot → Type 0
Tells answer slots = IsSoonest answer.rule answer.soonest slots (length slots)

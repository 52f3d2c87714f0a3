-- Which places are due at some moment, by moments that were found once.
use Rattle.std.specs.Prelude.{◌≡◌, ℕ, ◌^◌, ◌<◌, ◌==◌, ◌&&◌, Bool, false, Option, Some, None, if◌then◌else◌, nat_lt, nat_le}
use Rattle.stores.specs.declared.ask_rule.AskRule.{AskRule}
use Rattle.stores.specs.declared.ask_rule.DueBy.{DueBy}
use Rattle.stores.specs.Asking.{is_time}

-- a moment is this one or a sooner one
abbrev pub is_until : Option ℕ → (moment : ℕ) → Bool
is_until None moment = false
is_until (Some last) moment = nat_le moment last

abbrev pub is_due_by : DueBy → (noticed asks last : ℕ) → Bool
is_due_by by noticed asks last = nat_lt asks by.asks && (if asks == 0 then is_until by.first noticed else nat_le last by.again)

-- it tells so of each place
abbrev pub IsDueBy : DueBy → (now : ℕ) → AskRule → Type 0
IsDueBy by now rule = (noticed asks last : ℕ) → noticed < 2 ^ 64 → is_due_by by noticed asks last ≡ (nat_lt asks rule.asks && is_time now rule.delay rule.retry noticed asks last)

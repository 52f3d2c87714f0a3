-- Gaps and waits with a cause, read off the log, the newest entry first.
use Rattle.std.specs.Prelude.{◌≡◌, ℕ, ◌+◌, ◌≤◌, nat_lt, List, [], ◌∷◌, Option, Some, None, if◌then◌else◌}
use Rattle.receiver.specs.declared.answer.Played.TheVariants.{Gap, Wait}
use Rattle.world.specs.declared.event.Answer.TheVariants.{Taken}
use Rattle.world.specs.declared.event.Entry.{Entry}
use Rattle.world.specs.declared.event.Entry.TheVariants.{Delivered, Injected, Played}
use Rattle.world.specs.Config.{Config}
use Rattle.world.specs.Reading.{cursor_of}
use Rattle.world.specs.Reach.{shift_of, IsReached}

abbrev pub earlier_or : Option ℕ → (place above now : ℕ) → Option ℕ
earlier_or (Some noticed) place above now = Some noticed
earlier_or None place above now = if nat_lt place above then Some now else None

-- The moment at which a place was noticed to be missing: that of the first taken place above it.
abbrev pub noticed_of : List Entry → (place : ℕ) → Option ℕ
noticed_of [] place = None
noticed_of (Delivered index label now (Taken taken) ∷ before) place = earlier_or (noticed_of before place) place taken.place now
noticed_of (Injected end now (Taken taken) ∷ before) place = earlier_or (noticed_of before place) place taken.place now
noticed_of (entry ∷ before) place = noticed_of before place

-- The patience of a place that was noticed at this moment is over: it was noticed now or before, and at least the
-- patience ago. (Sums have no bound here, so one inequality says both.)
abbrev pub IsOver : (patience noticed now : ℕ) → Type 0
IsOver patience noticed now = noticed + patience ≤ now

-- A place is given up for cause: no packet of it had reached the started receiver, it was noticed, and its
-- patience had passed.
pub record IsCause (c : Config) (past : List Entry) (place now : ℕ) : Type 0 where
  pub not_reached : IsReached past (place + shift_of past) → ⊥
  pub noticed : (moment : ℕ) × (noticed_of past place ≡ Some moment) × IsOver c.receiver.patience moment now

-- Waiting is founded: nothing was taken so far, or no packet of the cursor's place had reached the started
-- receiver, and its patience had not passed.
abbrev pub IsWaitFor : Config → List Entry → (cursor : Option ℕ) → (now : ℕ) → Type 0
IsWaitFor c past None now = Unit {0}
IsWaitFor c past (Some cursor) now =
    (IsReached past (cursor + shift_of past) → ⊥) × ((moment : ℕ) → noticed_of past cursor ≡ Some moment → IsOver c.receiver.patience moment now → ⊥)

-- Each gap and each wait has its cause.
abbrev pub IsJustified : Config → List Entry → Type 0
IsJustified c [] = Unit {0}
IsJustified c (Played now (Gap place) ∷ before) = IsCause c before place now × IsJustified c before
IsJustified c (Played now Wait ∷ before) = IsWaitFor c before (cursor_of before) now × IsJustified c before
IsJustified c (entry ∷ before) = IsJustified c before

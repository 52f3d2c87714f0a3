-- What a sending endpoint passes over before it retransmits: the marked places that may not go at the moment, up to the
-- first that may.
use Rattle.std.specs.Prelude.{◌≡◌, ◌≢◌, ℕ, ◌<◌, ◌≤◌, ◌&&◌, true, List, Option, Result}
use Rattle.std.specs.Option.{option_map}
use Rattle.rtpwire.specs.declared.fault.TooShort.{TooShort}
use Rattle.rtpwire.specs.Session.{Streams}
use Rattle.stores.specs.PastByPlace.{is_marked}
use Rattle.sender.specs.History.{SenderState, not_to_repeat}
use Rattle.sender.specs.Passing.{IsNext}
use Rattle.sender.specs.Repairing.{RepairsInto}
use Rattle.endpoint.specs.declared.resend_rule.ResendRule.{ResendRule}
use Rattle.endpoint.specs.declared.resend_rule.Times.{Times}
use Rattle.endpoint.specs.declared.resend_rule.Verdict.{Verdict}
use Rattle.endpoint.specs.declared.resend_rule.Verdict.TheVariants.{Go}
use Rattle.endpoint.specs.declared.resend_counts.ResendCounts.{ResendCounts}
use Rattle.endpoint.specs.Counts.{more}
use Rattle.endpoint.specs.Moments.{times_at}
use Rattle.endpoint.specs.ResendCounts.{count_below, is_early, is_expired}
use Rattle.endpoint.specs.Resending.{verdict}

-- whether the place q may go at the moment `now`, by the moments in its cell
abbrev pub verdict_at : ResendRule → List Times → (now q : ℕ) → Verdict
verdict_at rule cells now q = verdict rule (times_at cells q) now

-- how many of the marked places below `from` are early, and how many are expired
abbrev pub early_below : ResendRule → List Times → (now : ℕ) → SenderState → (from : ℕ) → ℕ
early_below rule cells now old from = count_below (λ q. is_marked (old.entries q) && is_early (verdict_at rule cells now q)) from

abbrev pub expired_below : ResendRule → List Times → (now : ℕ) → SenderState → (from : ℕ) → ℕ
expired_below rule cells now old from = count_below (λ q. is_marked (old.entries q) && is_expired (verdict_at rule cells now q)) from

-- The marks of all places below `from` are taken away, none of which may go; the others stay. Each is counted by why.
pub record PassesBelow (rule : ResendRule) (cells : List Times) (now from : ℕ) (old : SenderState) (passed : ResendCounts) (new : SenderState) (passed' : ResendCounts) : Type 0 where
  pub next : new.next ≡ old.next
  pub repair : new.repair ≡ old.repair
  pub below : (q : ℕ) → q < from → new.entries q ≡ option_map not_to_repeat (old.entries q)
  pub others : (q : ℕ) → from ≤ q → new.entries q ≡ old.entries q
  pub none_may : (q : ℕ) → q < from → is_marked (old.entries q) ≡ true → verdict_at rule cells now q ≢ Go
  pub early : passed'.early ≡ more passed.early (early_below rule cells now old from)
  pub expired : passed'.expired ≡ more passed.expired (expired_below rule cells now old from)

-- What may not go is passed over, up to the first marked place that may, or all of it.
pub record PassesWhatMayNot (rule : ResendRule) (cells : List Times) (now : ℕ) (old : SenderState) (passed : ResendCounts) (new : SenderState) (passed' : ResendCounts) : Type 0 where
  pub from : ℕ
  pub passes : PassesBelow rule cells now from old passed new passed'
  pub may : (q : ℕ) → IsNext new q → verdict_at rule cells now q ≡ Go

-- The least marked place that may go is retransmitted; what may not and lies below it is passed over.
pub record Retransmits (rule : ResendRule) (cells : List Times) (s : Streams) (now : ℕ) (old : SenderState) (passed : ResendCounts) (out : List ℕ) (answer : Result (Option (ℕ × ℕ)) TooShort) (out' : List ℕ) (new : SenderState) (passed' : ResendCounts) : Type 0 where
  pub between : SenderState
  pub passes : PassesWhatMayNot rule cells now old passed between passed'
  pub repairs : RepairsInto s between out answer out' new

-- By the rule that lets each packet go, nothing is passed over.
use Rattle.std.proofs.Common.{◌≡◌, ℕ, ◌^◌, ◌<◌, ◌&&◌, Bool, true, false, List, Option, Result, refl, sym, ap, subst, ◌∙◌, inl, inr}
use Rattle.std.proofs.lemmas.Bool.{cases_lt, cases_Bool}
use Rattle.rtpwire.specs.declared.fault.TooShort.{TooShort}
use Rattle.rtpwire.specs.Session.{Streams}
use Rattle.stores.specs.PastByPlace.{is_marked}
use Rattle.sender.specs.History.{SenderState}
use Rattle.sender.specs.Repairing.{RepairsInto}
use Rattle.endpoint.specs.declared.resend_rule.Times.{Times}
use Rattle.endpoint.specs.declared.resend_rule.Verdict.{Verdict}
use Rattle.endpoint.specs.declared.resend_counts.ResendCounts.{ResendCounts}
use Rattle.endpoint.specs.Counts.{more}
use Rattle.endpoint.specs.Moments.{times_at}
use Rattle.endpoint.specs.Passing.{verdict_at, PassesBelow, Retransmits}
use Rattle.endpoint.specs.ResendCounts.{count_below, is_early, is_expired}
use Rattle.endpoint.specs.Resending.{always}
use Rattle.endpoint.proofs.InTime.{always_goes}
use Rattle.endpoint.proofs.Passes.{more_zero, none_among, unmarked_is}

same_sender : (v w : SenderState) → v.next ≡ w.next → v.repair ≡ w.repair → ((q : ℕ) → v.entries q ≡ w.entries q) → v ≡ w
same_sender v w next repair entries = λ i. record { next = next i; repair = repair i; entries = λ q. entries q i }

and_false : (b : Bool) → (b && false) ≡ false
and_false true = refl
and_false false = refl

module _ (cells : List Times) (now from : ℕ) (old : SenderState) (passed : ResendCounts) (new : SenderState) (passed' : ResendCounts) (so : PassesBelow always cells now from old passed new passed') where
  none_marked : (q : ℕ) → q < from → is_marked (old.entries q) ≡ false
  none_marked q under = elim (cases_Bool (is_marked (old.entries q))) [
    | inl marked ↦ absurd (so.none_may q under marked (always_goes (times_at cells q) now))
    | inr not ↦ not
  ]

  pub nothing_passed : new ≡ old
  nothing_passed =
      same_sender new old so.next so.repair (λ q. elim (cases_lt q from) [
        | inl less ↦ so.below q less ∙ unmarked_is (old.entries q) (none_marked q less)
        | inr more ↦ so.others q more
      ])

  none_counted : (is_so : Verdict → Bool) → count_below (λ q. is_marked (old.entries q) && is_so (verdict_at always cells now q)) from ≡ 0
  none_counted is_so = none_among (λ q. is_marked (old.entries q) && is_so (verdict_at always cells now q)) from (λ q under. ap (λ b. b && is_so (verdict_at always cells now q)) (none_marked q under))

  pub early_stays : passed.early < 2 ^ 64 → passed'.early ≡ passed.early
  early_stays fits = so.early ∙ sym (more_zero passed.early _ fits (none_counted is_early))

  pub expired_stays : passed.expired < 2 ^ 64 → passed'.expired ≡ passed.expired
  expired_stays fits = so.expired ∙ sym (more_zero passed.expired _ fits (none_counted is_expired))

pub always_as_before : (cells : List Times) (s : Streams) (now : ℕ) (old : SenderState) (passed : ResendCounts) (out : List ℕ) (answer : Result (Option (ℕ × ℕ)) TooShort) (out' : List ℕ) (new : SenderState) (passed' : ResendCounts) →
    passed.early < 2 ^ 64 → passed.expired < 2 ^ 64 → Retransmits always cells s now old passed out answer out' new passed' →
    RepairsInto s old out answer out' new × (passed'.early ≡ passed.early) × (passed'.expired ≡ passed.expired)
always_as_before cells s now old passed out answer out' new passed' early expired resends =
    let passes = resends.passes.passes in
    let from = resends.passes.from in (
      subst (λ (v : SenderState). RepairsInto s v out answer out' new) (nothing_passed cells now from old passed resends.between passed' passes) resends.repairs,
      early_stays cells now from old passed resends.between passed' passes early,
      expired_stays cells now from old passed resends.between passed' passes expired,
    )

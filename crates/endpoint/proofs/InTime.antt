-- What a verdict says of the time, in words without it.
use Rattle.std.proofs.Common.{◌≡◌, ◌≢◌, ℕ, ◌-◌, ◌<◌, ◌≤◌, Bool, true, false, Option, Some, None, refl, sym, ap, ◌∙◌, arith, inl, inr}
use Rattle.std.specs.Prelude.{IsSomeAnd, if◌then◌else◌}
use Rattle.std.proofs.lemmas.Bool.{cases_Bool, ltb-true, ltb-false, le-ltb}
use Rattle.endpoint.specs.declared.resend_rule.ResendRule.{ResendRule}
use Rattle.endpoint.specs.declared.resend_rule.Times.{Times}
use Rattle.endpoint.specs.declared.resend_rule.Verdict.{Verdict}
use Rattle.endpoint.specs.declared.resend_rule.Verdict.TheVariants.{Go, Early, Expired}
use Rattle.endpoint.specs.Resending.{is_early, is_expired, verdict, always, IsInTime}
use Rattle.endpoint.specs.TimelyRuns.{IsOutOfTime}

abbrev chosen : (expired early : Bool) → Verdict
chosen expired early = if expired then Expired else (if early then Early else Go)

go_neither : (expired early : Bool) → chosen expired early ≡ Go → (expired ≡ false) × (early ≡ false)
go_neither true early is = absurd (cc)
go_neither false true is = absurd (cc)
go_neither false false is = (refl, refl)

within : (deadline : Option ℕ) (sent now : ℕ) → is_expired deadline sent now ≡ false → (span : ℕ) → deadline ≡ Some span → now - sent ≤ span
within deadline sent now is span at = ltb-false span (now - sent) (sym (ap (λ o. is_expired o sent now) at) ∙ is)

apart : (span : ℕ) (resent : Option ℕ) (now : ℕ) → is_early span resent now ≡ false → (moment : ℕ) → resent ≡ Some moment → span ≤ now - moment
apart span resent now is moment at = ltb-false (now - moment) span (sym (ap (λ o. is_early span o now) at) ∙ is)

pub in_time : (rule : ResendRule) (times : Times) (now : ℕ) → verdict rule times now ≡ Go → IsInTime rule times now
in_time rule times now go =
    let neither = go_neither (is_expired rule.deadline times.sent now) (is_early rule.min_resend times.resent now) go in
    record {
      deadline = within rule.deadline times.sent now neither.0;
      apart = apart rule.min_resend times.resent now neither.1;
    }

past : (deadline : Option ℕ) (sent now : ℕ) → is_expired deadline sent now ≡ true → IsSomeAnd deadline (λ span. span < now - sent)
past None sent now is = absurd (cc)
past (Some span) sent now is = ltb-true span (now - sent) is

soon : (span : ℕ) (resent : Option ℕ) (now : ℕ) → is_early span resent now ≡ true → IsSomeAnd resent (λ moment. now - moment < span)
soon span None now is = absurd (cc)
soon span (Some moment) now is = ltb-true (now - moment) span is

pub out_of_time : (rule : ResendRule) (times : Times) (now : ℕ) → verdict rule times now ≢ Go → IsOutOfTime rule times now
out_of_time rule times now not =
    elim (cases_Bool (is_expired rule.deadline times.sent now)) [
      | inl late ↦ inl (past rule.deadline times.sent now late)
      | inr not_late ↦ elim (cases_Bool (is_early rule.min_resend times.resent now)) [
        | inl early ↦ inr (soon rule.min_resend times.resent now early)
        | inr not_early ↦ absurd (not (λ i. chosen (not_late i) (not_early i)))
      ]
    ]

never_below : (resent : Option ℕ) (now : ℕ) → is_early 0 resent now ≡ false
never_below None now = refl
never_below (Some moment) now = le-ltb (now - moment) 0 (omega arith)

pub always_goes : (times : Times) (now : ℕ) → verdict always times now ≡ Go
always_goes times now = ap (λ b. chosen false b) (never_below times.resent now)

-- Which retransmissions fit the time. (The rule is this project's own: RFC 4588 leaves it open when a sender retransmits.)
use Rattle.std.specs.Prelude.{ℕ, ◌-◌, ◌≤◌, Bool, false, nat_lt, Option, Some, None, if◌then◌else◌}
use Rattle.std.specs.Option.{ForSome}
use Rattle.endpoint.specs.declared.resend_rule.ResendRule.{ResendRule}
use Rattle.endpoint.specs.declared.resend_rule.Times.{Times}
use Rattle.endpoint.specs.declared.resend_rule.Verdict.{Verdict}
use Rattle.endpoint.specs.declared.resend_rule.Verdict.TheVariants.{Go, Early, Expired}

-- A packet that was sent at this moment was so more than the deadline ago. (A moment that is still to come is 0 ago.)
abbrev pub is_expired : (deadline : Option ℕ) → (sent now : ℕ) → Bool
is_expired None sent now = false
is_expired (Some span) sent now = nat_lt span (now - sent)

-- A packet that was last retransmitted at this moment, if it was, was so less than the span ago.
abbrev pub is_early : (span : ℕ) → (resent : Option ℕ) → (now : ℕ) → Bool
is_early span None now = false
is_early span (Some resent) now = nat_lt (now - resent) span

-- Whether a packet with these moments may be retransmitted: one that is both is expired.
abbrev pub verdict : ResendRule → Times → (now : ℕ) → Verdict
verdict rule times now =
    if is_expired rule.deadline times.sent now then Expired else (if is_early rule.min_resend times.resent now then Early else Go)

-- each packet may, whatever the time
abbrev pub always : ResendRule
always = record { min_resend = 0; deadline = None }

-- The same without those words, for a law to say: a retransmission at this moment is neither past the packet's deadline nor
-- within the span after the one before.
pub record IsInTime (rule : ResendRule) (times : Times) (now : ℕ) : Type 0 where
  pub deadline : ForSome rule.deadline (λ span. now - times.sent ≤ span)
  pub apart : ForSome times.resent (λ resent. rule.min_resend ≤ now - resent)

-- What feedback asked for in vain, and when that is told.
use Rattle.std.specs.Prelude.{◌≡◌, ℕ, ◌+◌, ◌-◌, Bool, true, false}
use Rattle.fbwire.specs.declared.fault.FeedbackFault.{FeedbackFault}
use Rattle.fbwire.specs.declared.fault.FeedbackFault.TheVariants.{WrongMedia, WrongReporter}
use Rattle.endpoint.specs.declared.resend_counts.ResendCounts.{ResendCounts}
use Rattle.timing.specs.Capped.{capped}
use Rattle.gozdrit_relay.specs.declared.unmet.Unmet.{Unmet}
use Rattle.gozdrit_relay.specs.declared.unmet.UnmetTold.{UnmetTold}

-- how much more of each there is than before
abbrev pub unmet_since : (before now : Unmet) → Unmet
unmet_since before now =
    record {
      expired = now.expired - before.expired;
      unknown = now.unknown - before.unknown;
      exhausted = now.exhausted - before.exhausted;
      crowded = now.crowded - before.crowded;
      others = now.others - before.others;
    }

-- all of it was told at this moment, and nothing more is within ten seconds
abbrev pub told_at : Unmet → (now : ℕ) → UnmetTold
told_at unmet now = record { told = unmet; next = capped (now + 10000) }

-- all of it is for other media, or of other reporters
abbrev pub is_for_others : FeedbackFault → Bool
is_for_others WrongMedia = true
is_for_others WrongReporter = true
is_for_others fault = false

-- what did not fit the time in the sessions before, and in the one there is
abbrev pub lapsed_with : (before passed : ResendCounts) → ResendCounts
lapsed_with before passed = record { early = capped (before.early + passed.early); expired = capped (before.expired + passed.expired) }

-- What an endpoint counts of the retransmissions that did not fit the time.
use Rattle.std.specs.Prelude.{ℕ, zero, suc, ◌+◌, Bool, true, false, if◌then◌else◌}
use Rattle.endpoint.specs.declared.resend_counts.ResendCounts.{ResendCounts}
use Rattle.endpoint.specs.declared.resend_rule.Verdict.{Verdict}
use Rattle.endpoint.specs.declared.resend_rule.Verdict.TheVariants.{Go, Early, Expired}
use Rattle.endpoint.specs.Counts.{more}

-- a packet was passed over for this
abbrev pub count_verdict : Verdict → ResendCounts → ResendCounts
count_verdict Go c = c
count_verdict Early c = record c { early = more c.early 1 }
count_verdict Expired c = record c { expired = more c.expired 1 }

-- nothing was counted
abbrev pub none_passed : ResendCounts
none_passed = record { early = 0; expired = 0 }

-- how many of the places below n pass a test
unfoldable pub count_below : (test : ℕ → Bool) → (n : ℕ) → ℕ
count_below test zero = 0
count_below test (suc n) = count_below test n + (if test n then 1 else 0)

-- which of the two it is
abbrev pub is_early : Verdict → Bool
is_early Go = false
is_early Early = true
is_early Expired = false

abbrev pub is_expired : Verdict → Bool
is_expired Go = false
is_expired Early = false
is_expired Expired = true

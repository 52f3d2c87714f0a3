-- How soon a sender may retransmit a packet again: not while the answer to its last retransmission waits in a queue. (The rule is this
-- project's own.) Moments and spans are in milliseconds, and where it is said in 4096 parts of one.
use Rattle.std.specs.Prelude.{ℕ, zero, suc, ◌≤◌, ◌+◌, ◌-◌, ◌*◌, ◌/◌, ◌==◌, nat_lt, List, [], ◌∷◌, max, min, Option, Some, None, if◌then◌else◌}
use Rattle.timing.specs.Capped.{capped}
use Rattle.timing.specs.Lately.{greatest_at, seen_at, seen_none}
use Rattle.timing.specs.declared.resend_interval.ResendInterval.{ResendInterval}

abbrev pub first_resends : ResendInterval
first_resends = record { answer = None; idle = seen_none; gap = 0; last = None; busy = 0 }

-- the mean gap, in parts, after a gap of so many milliseconds: the first one, and then 63 parts of 64 of the old mean and one of the gap
abbrev pub mean_after : (mean gap : ℕ) → ℕ
mean_after mean gap = if mean == 0 then gap * 4096 else capped (mean - mean / 64 + gap * 64)

-- a gap counts for 100 milliseconds at most
abbrev pub gap_after : (last : Option ℕ) → (mean now : ℕ) → ℕ
gap_after None mean now = mean
gap_after (Some last) mean now = mean_after mean (min (now - last) 100)

-- media was sent
abbrev pub sent_at : ResendInterval → (now : ℕ) → ResendInterval
sent_at r now = record r { gap = gap_after r.last r.gap now; last = Some now }

-- how long a path takes for a packet, in parts: as lies between two packets of media, on the mean, and 5 milliseconds at most
abbrev pub packet_time : ResendInterval → ℕ
packet_time r = min r.gap 20480

-- A packet was retransmitted: what left before it, and then it, would be taken at the rate of the media.
abbrev pub resent_at : ResendInterval → (now : ℕ) → ResendInterval
resent_at r now = record r { busy = capped (max r.busy (capped (now * 4096)) + packet_time r) }

-- How long an answer takes, where one more took so long: what is shorter counts at once, and what is longer raises it by an eighth and
-- a millisecond at most.
abbrev pub answered_after : (answer : Option ℕ) → (took : ℕ) → ℕ
answered_after None took = took
answered_after (Some before) took = min took (capped (capped (before + before / 8) + 1))

abbrev pub heard_after : ResendInterval → (took now : ℕ) → ResendInterval
heard_after r took now = record r { answer = Some (answered_after r.answer took); idle = seen_at r.idle (60000 - took) now }

-- the least that answers took of late, below a minute
abbrev pub least_at : ResendInterval → (now : ℕ) → ℕ
least_at r now = 60000 - greatest_at r.idle now

-- for how long what was retransmitted would still be taken
abbrev pub queued_at : ResendInterval → (now : ℕ) → ℕ
queued_at r now = (r.busy - capped (now * 4096)) / 4096

-- While what was retransmitted would be taken for longer than half of what an answer takes, that, and what an answer takes; and else what an
-- answer takes beyond twice the least.
abbrev pub queue_of : (answer idle queued : ℕ) → ℕ
queue_of answer idle queued = if nat_lt answer (2 * queued) then capped (answer + queued) else answer - 2 * idle

abbrev pub interval_with : (answer : Option ℕ) → (idle queued least : ℕ) → ℕ
interval_with None idle queued least = least
interval_with (Some answer) idle queued least = max least (queue_of answer idle queued)

abbrev pub interval_at : ResendInterval → (least now : ℕ) → ℕ
interval_at r least now = interval_with r.answer (least_at r now) (queued_at r now) least

-- answers took so long, one after another, each heard at its moment
abbrev pub answers_heard : ResendInterval → List (ℕ × ℕ) → ResendInterval
answers_heard r [] = r
answers_heard r (took ∷ others) = answers_heard (heard_after r took.0 took.1) others

-- each of them took so long at least
abbrev pub TakeAtLeast : List (ℕ × ℕ) → (least : ℕ) → Type 0
TakeAtLeast [] least = Unit {0}
TakeAtLeast (took ∷ others) least = (least ≤ took.0) × TakeAtLeast others least

-- so many packets were retransmitted at one moment
unfoldable pub resent_many : ResendInterval → (now many : ℕ) → ResendInterval
resent_many r now zero = r
resent_many r now (suc many) = resent_at (resent_many r now many) now

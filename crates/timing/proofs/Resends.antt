-- How soon a packet may be retransmitted again: what answers and bursts make of it.
use Rattle.std.proofs.Common.{◌≡◌, ◌<◌, ◌≤◌, ◌+◌, ◌-◌, ◌*◌, ◌/◌, ◌^◌, ℕ, Bool, true, false, nat_lt, zero, suc, min, max, if◌then◌else◌, List, [], ◌∷◌, Option, Some, None, IsSomeAnd, refl, sym, ap, subst, ◌∙◌, arith}
use Rattle.std.proofs.Math.Nat.{suc-mul}
use Rattle.std.proofs.lemmas.Bool.Decides.{nat_tests}
use Rattle.timing.specs.Capped.{capped}
use Rattle.timing.specs.ResendInterval.{answered_after, heard_after, answers_heard, interval_at, interval_with, least_at, packet_time, queue_of, queued_at, resent_at, resent_many, TakeAtLeast}
use Rattle.timing.specs.declared.resend_interval.ResendInterval.{ResendInterval}

-- one more answer that took so long: what was known is raised by an eighth of what was known at first, or to that
rises : (before took first floor longer : ℕ) → longer < 2 ^ 64 → min longer floor ≤ before → min longer first ≤ before → longer ≤ took
    → (min longer (floor + first / 8 + 1) ≤ answered_after (Some before) took) × (min longer first ≤ answered_after (Some before) took)
rises before took first floor longer fits high since slow = (omega arith, omega arith)

-- what answers add to a number of milliseconds
abbrev risen : List (ℕ × ℕ) → (first floor : ℕ) → ℕ
risen [] first floor = floor
risen (took ∷ others) first floor = risen others first (floor + first / 8 + 1)

all_rise : (answers : List (ℕ × ℕ)) (r : ResendInterval) (before first floor longer : ℕ) → r.answer ≡ Some before → longer < 2 ^ 64
    → min longer floor ≤ before → min longer first ≤ before → TakeAtLeast answers longer
    → IsSomeAnd (answers_heard r answers).answer (λ after. min longer (risen answers first floor) ≤ after)
all_rise [] r before first floor longer is fits high since slow = subst (λ a. IsSomeAnd a (λ after. min longer floor ≤ after)) (sym is) high
all_rise (took ∷ others) r before first floor longer is fits high since slow =
    let one = rises before took.0 first floor longer fits high since slow.0 in
    all_rise others (heard_after r took.0 took.1) (answered_after (Some before) took.0) first (floor + first / 8 + 1) longer
    (ap (λ a. Some (answered_after a took.0)) is) fits one.0 one.1 slow.1

pub doubled : (r : ResendInterval) (before longer : ℕ) (a b c d e f g h : ℕ × ℕ) → r.answer ≡ Some before → longer < 2 ^ 64
    → TakeAtLeast (a ∷ b ∷ c ∷ d ∷ e ∷ f ∷ g ∷ h ∷ []) longer
    → IsSomeAnd (answers_heard r (a ∷ b ∷ c ∷ d ∷ e ∷ f ∷ g ∷ h ∷ [])).answer (λ after. min longer (2 * before) ≤ after)
doubled r before longer a b c d e f g h is fits slow =
    let after = answers_heard r (a ∷ b ∷ c ∷ d ∷ e ∷ f ∷ g ∷ h ∷ []) in
    let high = all_rise (a ∷ b ∷ c ∷ d ∷ e ∷ f ∷ g ∷ h ∷ []) r before before before longer is fits (omega arith) (omega arith) slow in
    let most : min longer (2 * before) ≤ min longer (risen (a ∷ b ∷ c ∷ d ∷ e ∷ f ∷ g ∷ h ∷ []) before before) = omega arith in
    raised after.answer most high
  where
    raised : (answer : Option ℕ) {low high : ℕ} → low ≤ high → IsSomeAnd answer (λ after. high ≤ after) → IsSomeAnd answer (λ after. low ≤ after)
    raised None low_is takes = takes
    raised (Some after) low_is takes = omega (arith, low_is, takes)

-- what an answer takes beyond twice the least is waited for
long : (answer idle queued : ℕ) → answer < 2 ^ 64 → answer ≤ 2 * idle + queue_of answer idle queued
long answer idle queued fits = by (nat_lt answer (2 * queued))
  where
    by : (b : Bool) → answer ≤ 2 * idle + (if b then capped (answer + queued) else answer - 2 * idle)
    by true = omega (arith, fits)
    by false = omega arith

idle_of : (answer idle queued : ℕ) → queued ≡ 0 → queue_of answer idle queued ≡ answer - 2 * idle
idle_of answer idle queued none = by (nat_lt answer (2 * queued)) refl
  where
    by : (b : Bool) → nat_lt answer (2 * queued) ≡ b → (if b then capped (answer + queued) else answer - 2 * idle) ≡ answer - 2 * idle
    by true is = absurd (grind (arith, nat_tests, is, none))
    by false is = refl

taken_of : (answer idle queued : ℕ) → answer < 2 * queued → queue_of answer idle queued ≡ capped (answer + queued)
taken_of answer idle queued some = by (nat_lt answer (2 * queued)) refl
  where
    by : (b : Bool) → nat_lt answer (2 * queued) ≡ b → (if b then capped (answer + queued) else answer - 2 * idle) ≡ capped (answer + queued)
    by true is = refl
    by false is = absurd (grind (arith, nat_tests, is, some))

pub least_is : (r : ResendInterval) (least now : ℕ) → least ≤ interval_at r least now
least_is r least now = by r.answer
  where
    by : (answer : Option ℕ) → least ≤ interval_with answer (least_at r now) (queued_at r now) least
    by None = omega arith
    by (Some after) = at_least (queue_of after (least_at r now) (queued_at r now))
      where
        at_least : (queue : ℕ) → least ≤ max least queue
        at_least queue = omega arith

pub free : (r : ResendInterval) (answer least now : ℕ) → r.answer ≡ Some answer → answer ≤ 2 * least_at r now → r.busy ≤ now * 4096 → now * 4096 < 2 ^ 64
    → interval_at r least now ≡ least
free r answer least now is short taken fits =
    let none : queued_at r now ≡ 0 = omega (arith, taken, fits) in
    let idle = idle_of answer (least_at r now) (queued_at r now) none in
    subst (λ a. interval_with a (least_at r now) (queued_at r now) least ≡ least) (sym is)
    (subst (λ queue. max least queue ≡ least) (sym idle) (omega (arith, short)))

pub beyond : (r : ResendInterval) (answer least now : ℕ) → r.answer ≡ Some answer → answer < 2 ^ 64 → answer ≤ 2 * least_at r now + interval_at r least now
beyond r answer least now is fits =
    subst (λ a. answer ≤ 2 * least_at r now + interval_with a (least_at r now) (queued_at r now) least) (sym is)
    (greater (least_at r now) (queue_of answer (least_at r now) (queued_at r now)) (long answer (least_at r now) (queued_at r now) fits))
  where
    greater : (idle queue : ℕ) → answer ≤ 2 * idle + queue → answer ≤ 2 * idle + max least queue
    greater idle queue so = omega (arith, so)

pub at_once : (r : ResendInterval) (took : ℕ) → answered_after r.answer took ≤ took
at_once r took = by r.answer
  where
    by : (answer : Option ℕ) → answered_after answer took ≤ took
    by None = omega arith
    by (Some before) = omega arith

-- a packet that is retransmitted adds what the path takes for it, behind what left at the same moment, and changes nothing else
record Adds (many time : ℕ) (r after : ResendInterval) (now : ℕ) : Type 0 where
  answer : after.answer ≡ r.answer
  gap : after.gap ≡ r.gap
  busy : 0 < many → now * 4096 + many * time ≤ after.busy

one_adds : (many time : ℕ) (r before : ResendInterval) (now : ℕ) → packet_time r ≡ time → now * 4096 + suc many * time < 2 ^ 64
    → Adds many time r before now → Adds (suc many) time r (resent_at before now) now
one_adds many time r before now is_time fits added =
    record { answer = added.answer; gap = added.gap; busy = λ some. by many refl }
  where
    one : packet_time before ≡ time
    one = ap (λ gap. min gap 20480) added.gap ∙ is_time

    by : (n : ℕ) → many ≡ n → now * 4096 + suc many * time ≤ (resent_at before now).busy
    by zero is =
        let product : suc many * time ≡ time = suc-mul many time ∙ subst (λ n. n * time + time ≡ time) (sym is) (omega arith) in
        omega (arith, one, product, fits)
    by (suc n) is =
        let b = added.busy (omega (arith, is)) in
        let product = suc-mul many time in
        omega (arith, one, b, product, fits)

adds : (many time : ℕ) (r : ResendInterval) (now : ℕ) → packet_time r ≡ time → now * 4096 + many * time < 2 ^ 64 → Adds many time r (resent_many r now many) now
unfolding resent_many
adds zero time r now is_time fits = record { answer = refl; gap = refl; busy = λ some. absurd (omega (arith, some)) }
adds (suc many) time r now is_time fits =
    let product = suc-mul many time in
    one_adds many time r (resent_many r now many) now is_time fits (adds many time r now is_time (omega (arith, fits, product)))

-- so much is still taken behind packets that left at once
taken : (r : ResendInterval) (now many time : ℕ) → packet_time r ≡ time → now * 4096 + many * time < 2 ^ 64 → many * time / 4096 ≤ queued_at (resent_many r now many) now
taken r now many time is_time fits = by many refl (adds many time r now is_time fits).busy
  where
    by : (n : ℕ) → many ≡ n → (0 < many → now * 4096 + many * time ≤ (resent_many r now many).busy) → many * time / 4096 ≤ queued_at (resent_many r now many) now
    by zero none busy =
        let product : many * time ≡ 0 = subst (λ n. n * time ≡ 0) (sym none) (omega arith) in
        omega (arith, product)
    by (suc n) some busy = let b = busy (omega (arith, some)) in omega (arith, b, fits)

behind_by : (r : ResendInterval) (answer now many least time : ℕ) → packet_time r ≡ time → r.answer ≡ Some answer → now * 4096 + many * time < 2 ^ 64
    → answer < 2 * (many * time / 4096) → answer + many * time / 4096 < 2 ^ 64 → answer + many * time / 4096 ≤ interval_at (resent_many r now many) least now
behind_by r answer now many least time is_time is fits some short =
    let after = resent_many r now many in
    let still = taken r now many time is_time fits in
    let at = taken_of answer (least_at after now) (queued_at after now) (omega (arith, still, some)) in
    subst (λ a. answer + many * time / 4096 ≤ interval_with a (least_at after now) (queued_at after now) least) (sym ((adds many time r now is_time fits).answer ∙ is))
    (subst (λ queue. answer + many * time / 4096 ≤ max least queue) (sym at) (omega (arith, still, short)))

pub behind : (r : ResendInterval) (answer now many least : ℕ) → r.answer ≡ Some answer → now * 4096 + many * packet_time r < 2 ^ 64
    → answer < 2 * (many * packet_time r / 4096) → answer + many * packet_time r / 4096 < 2 ^ 64
    → answer + many * packet_time r / 4096 ≤ interval_at (resent_many r now many) least now
behind r answer now many least = behind_by r answer now many least (packet_time r) refl

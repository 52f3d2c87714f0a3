-- A pace is kept.
use Rattle.std.proofs.Common.{◌≡◌, ◌+◌, ◌-◌, ◌*◌, ◌/◌, ◌^◌, ◌<◌, ◌≤◌, ◌||◌, ◌&&◌, nat_le, ℕ, max, true, false, List, [], ◌∷◌, sum, refl, sym, ap, subst, ◌∙◌, arith}
use Rattle.std.proofs.Math.Nat.{mul-add, mul-le-mul_left, mul-le-mul_right}
use Rattle.std.proofs.lemmas.Bool.Decides.{nat_tests}
use Rattle.std.proofs.lemmas.List.Sums.{sum_by-cons}
use Rattle.rtpwire.specs.declared.limits.TheConstants.{MAX_DATAGRAM}
use Rattle.relays.specs.Capping.{capped}
use Rattle.relays.specs.MediaRate.{measured_at}
use Rattle.relays.specs.Pacing.{depth_by, drain_beside, drain_of, earned_by, is_free, is_open, least_by, most_beside, new_pace, owed_at}
use Rattle.relays.specs.Paced.{AreBetween, DrainsUpTo, IsSilentAt, MayLeave, Step, repaired, sent, heard, after_all, octets_repaired, octets_sent, pace_after}
use Rattle.relays.specs.declared.pace.Pace.{Pace}
use Rattle.relays.specs.declared.pace.Rate.{Rate}
use Rattle.relays.specs.declared.pace.Rate.TheVariants.{Free, Kilobits, Percent}

-- the bits of a datagram are few
few : MAX_DATAGRAM * 8 < 2 ^ 62
few = omega arith

-- ---- a burst

same_rate : (p : Pace) (now : ℕ) (octets : List ℕ) → (after_all p now octets).rate ≡ p.rate
same_rate p now [] = refl
same_rate p now (o ∷ before) = same_rate p now before

owes_no_more : (p : Pace) (now : ℕ) (octets : List ℕ) → owed_at (after_all p now octets) now ≤ owed_at p now + sum octets * 8
owes_no_more p now [] = omega arith
owes_no_more p now (o ∷ before) =
    let more : sum (o ∷ before) ≡ o + sum before = sum_by-cons (λ n. n) o before in
    grind (arith, owes_no_more p now before, more)

spends_no_more : (p : Pace) (now : ℕ) (octets : List ℕ) → p.credit ≤ (after_all p now octets).credit + sum octets * 8
spends_no_more p now [] = omega arith
spends_no_more p now (o ∷ before) =
    let more : sum (o ∷ before) ≡ o + sum before = sum_by-cons (λ n. n) o before in
    grind (arith, spends_no_more p now before, more)

opened : (p : Pace) (now share : ℕ) → p.rate ≡ Percent share → MAX_DATAGRAM * 8 ≤ p.credit → owed_at p now ≤ 524288 → is_open p now ≡ true
opened p now share by enough little =
    let tests : nat_le (MAX_DATAGRAM * 8) p.credit && nat_le (owed_at p now) 524288 ≡ true = grind (arith, nat_tests, enough, little) in
    subst (λ (r : Rate). is_free r || (nat_le (least_by r) p.credit && nat_le (owed_at p now) (depth_by r)) ≡ true) (sym by) tests

pub stays_open : (share : ℕ) (p : Pace) (now : ℕ) (octets : List ℕ) → p.rate ≡ Percent share → owed_at p now ≡ 0 → sum octets * 8 ≤ 524288
    → sum octets * 8 + MAX_DATAGRAM * 8 ≤ p.credit → is_open (after_all p now octets) now ≡ true
stays_open share p now octets by empty small enough =
    let little : owed_at (after_all p now octets) now ≤ 524288 = omega (arith, owes_no_more p now octets, empty, small) in
    let left : MAX_DATAGRAM * 8 ≤ (after_all p now octets).credit = omega (arith, spends_no_more p now octets, enough) in
    opened (after_all p now octets) now share (same_rate p now octets ∙ by) left little

-- ---- what is earned

rate_after : (p : Pace) (steps : List Step) → (pace_after p steps).rate ≡ p.rate
rate_after p [] = refl
rate_after p (repaired octets now ∷ before) = rate_after p before
rate_after p (sent octets now ∷ before) = rate_after p before
rate_after p (heard now ∷ before) = rate_after p before

-- an open pace has the longest datagram's bits
open_has : (p : Pace) (now share : ℕ) → p.rate ≡ Percent share → is_open p now ≡ true → MAX_DATAGRAM * 8 ≤ p.credit
open_has p now share by is =
    let tests : nat_le (MAX_DATAGRAM * 8) p.credit && nat_le (owed_at p now) 524288 ≡ true =
    subst (λ (r : Rate). is_free r || (nat_le (least_by r) p.credit && nat_le (owed_at p now) (depth_by r)) ≡ true) by is in
    grind (arith, nat_tests, tests)

-- what media earns is half of the share of it at most
half : (share octets : ℕ) → capped (share * capped (octets * 8)) / 200 ≤ share * (octets * 8) / 200
half share octets =
    let fewer : share * capped (octets * 8) ≤ share * (octets * 8) = mul-le-mul_left share (omega arith) in
    omega (arith, fewer)

earns : (r : Rate) (share octets : ℕ) → r ≡ Percent share → earned_by r (capped (octets * 8)) ≤ share * (octets * 8) / 200
earns r share octets by = subst (λ (r : Rate). earned_by r (capped (octets * 8)) ≤ share * (octets * 8) / 200) (sym by) (half share octets)

adds_up : (share one other : ℕ) → share * (one * 8) / 200 + share * (other * 8) / 200 ≤ share * ((one + other) * 8) / 200
adds_up share one other =
    let both : share * (one * 8 + other * 8) ≡ share * (one * 8) + share * (other * 8) = mul-add share (one * 8) (other * 8) in
    let same : (one + other) * 8 ≡ one * 8 + other * 8 = omega arith in
    omega (arith, ap (λ n. share * n) same, both)

-- What is saved up, and what left, was saved up before, or earned.
balance : (share : ℕ) (p : Pace) (steps : List Step) → p.rate ≡ Percent share → MayLeave p steps
    → (pace_after p steps).credit + octets_repaired steps * 8 ≤ p.credit + share * (octets_sent steps * 8) / 200
balance share p [] by may = omega arith
balance share p (repaired octets now ∷ before) by may =
    let was = balance share p before by may.2 in
    let enough = open_has (pace_after p before) now share (rate_after p before ∙ by) may.1 in
    omega (arith, was, enough, may.0, few)
balance share p (sent octets now ∷ before) by may =
    let was = balance share p before by may in
    let earned = earns (pace_after p before).rate share octets (rate_after p before ∙ by) in
    omega (arith, was, earned, adds_up share octets (octets_sent before))
balance share p (heard now ∷ before) by may =
    let was = balance share p before by may in
    omega (arith, was)

pub in_a_span : (share : ℕ) (p : Pace) (steps : List Step) → p.rate ≡ Percent share → MayLeave p steps
    → octets_repaired steps * 8 ≤ p.credit + share * (octets_sent steps * 8) / 200
in_a_span share p steps by may = omega (arith, balance share p steps by may)

pub in_all : (share : ℕ) (steps : List Step) → MayLeave (new_pace (Percent share)) steps
    → octets_repaired steps * 8 ≤ 262144 + share * (octets_sent steps * 8) / 200
in_all share steps may = in_a_span share (new_pace (Percent share)) steps refl may

-- ---- what is saved up

-- no more than a second of media earns, and 32 KiB
saved_up : (r : Rate) (steps : List Step) → (pace_after (new_pace r) steps).credit ≤ most_beside (pace_after (new_pace r) steps).rate (pace_after (new_pace r) steps).media.bits
saved_up r [] = omega arith
saved_up r (repaired octets now ∷ before) = omega (arith, saved_up r before)
saved_up r (sent octets now ∷ before) = omega arith
saved_up r (heard now ∷ before) = omega (arith, saved_up r before)

saved_beside : (r : Rate) (share rate bits : ℕ) → r ≡ Percent share → rate ≤ bits → most_beside r rate ≤ 262144 + share * bits / 200
saved_beside r share rate bits by slow =
    let more : share * rate ≤ share * bits = mul-le-mul_left share slow in
    subst (λ (r : Rate). most_beside r rate ≤ 262144 + share * bits / 200) (sym by) (omega (arith, more))

pub in_a_second : (share bits : ℕ) (before steps : List Step) → let p = pace_after (new_pace (Percent share)) before in
    p.media.bits ≤ bits → octets_sent steps * 8 ≤ bits → MayLeave p steps → octets_repaired steps * 8 ≤ 262144 + share * bits / 100
in_a_second share bits before steps slow short may =
    let p = pace_after (new_pace (Percent share)) before in
    let by : p.rate ≡ Percent share = rate_after (new_pace (Percent share)) before in
    let all = in_a_span share p steps by may in
    let saved = saved_beside p.rate share p.media.bits bits by slow in
    let more : share * (octets_sent steps * 8) ≤ share * bits = mul-le-mul_left share short in
    omega (arith, all, saved_up (Percent share) before, saved, more)

-- ---- silence

nothing_left : (bits passed : ℕ) → 1000 ≤ passed → capped (bits * (1000 - passed)) / 1000 ≡ 0
nothing_left bits passed long =
    let none : 1000 - passed ≡ 0 = omega (arith, long) in
    ap (λ n. capped (bits * n) / 1000) none ∙ omega arith

no_rate : (r : Rate) (now : ℕ) (before : List Step) → IsSilentAt now before → measured_at (pace_after (new_pace r) before).media now ≡ 0
no_rate r now [] silent = refl
no_rate r now (repaired octets at ∷ before) silent = no_rate r now before silent
no_rate r now (sent octets at ∷ before) silent = nothing_left (pace_after (new_pace r) (sent octets at ∷ before)).media.bits (now - at) (omega (arith, silent.0))
no_rate r now (heard at ∷ before) silent = no_rate r now before silent

earns_nothing : (r : Rate) → most_beside r 0 ≡ 262144
earns_nothing Free = omega arith
earns_nothing (Kilobits kilobits) = omega arith
earns_nothing (Percent share) = omega arith

pub falls : (r : Rate) (now : ℕ) (before : List Step) → IsSilentAt now before → (pace_after (new_pace r) (heard now ∷ before)).credit ≤ 262144
falls r now before silent =
    let was = pace_after (new_pace r) before in
    let most : most_beside was.rate (measured_at was.media now) ≡ 262144 = ap (λ n. most_beside was.rate n) (no_rate r now before silent) ∙ earns_nothing was.rate in
    omega (arith, most)

pub silent_leaves : (share now : ℕ) (before steps : List Step) → IsSilentAt now before → let p = pace_after (new_pace (Percent share)) (heard now ∷ before) in
    MayLeave p steps → octets_sent steps ≡ 0 → octets_repaired steps * 8 ≤ 262144
silent_leaves share now before steps silent may none =
    let p = pace_after (new_pace (Percent share)) (heard now ∷ before) in
    let by : p.rate ≡ Percent share = rate_after (new_pace (Percent share)) (heard now ∷ before) in
    let all = in_a_span share p steps by may in
    let nothing : share * (octets_sent steps * 8) ≡ share * 0 = ap (λ n. share * (n * 8)) none in
    omega (arith, all, falls (Percent share) now before silent, nothing)

-- ---- what runs out

-- What runs out of a bucket until a moment is no more than the greatest rate lets run out.
runs_out : (bits owed rate most since now start : ℕ) → rate ≤ most → start ≤ now → (since < start → bits ≡ 0) → bits ≤ owed + most * (since - start)
    → bits ≤ owed - capped (rate * (now - since)) + most * (max since now - start)
runs_out bits owed rate most since now start slow from nothing owes =
    let grows : rate * (now - since) ≤ most * (now - since) = mul-le-mul_right (now - since) slow in
    let splits : most * (since - start + (now - since)) ≡ most * (since - start) + most * (now - since) = mul-add most (since - start) (now - since) in
    grind (arith, grows, splits)

-- of a pace, after these steps
record Kept (start end most : ℕ) (p : Pace) (steps : List Step) (new : Pace) : Type 0 where
  until : new.since ≤ end
  nothing : new.since < start → octets_repaired steps * 8 ≡ 0
  owes : octets_repaired steps * 8 ≤ new.owed + most * (new.since - start)
  within : octets_repaired steps * 8 ≤ depth_by p.rate + most * (new.since - start) + MAX_DATAGRAM * 8

-- what an open pace owes
open_owes : (p : Pace) (now : ℕ) → is_free p.rate ≡ false → is_open p now ≡ true → owed_at p now ≤ depth_by p.rate
open_owes p now paced opened = grind (arith, nat_tests, paced, opened)

depth_is_small : (r : Rate) → depth_by r < 2 ^ 62
depth_is_small Free = omega arith
depth_is_small (Kilobits k) = omega arith
depth_is_small (Percent share) = omega arith

adds : (owed bits : ℕ) → owed < 2 ^ 62 → bits < 2 ^ 62 → capped (owed + capped bits) ≡ owed + bits
adds owed bits small short = omega arith

drains : (most : ℕ) (p : Pace) (steps : List Step) → DrainsUpTo most p steps → drain_of (pace_after p steps) ≤ most
drains most p [] up_to = up_to
drains most p (one ∷ before) up_to = up_to.0

kept : (start end most : ℕ) (p : Pace) (steps : List Step)
    → is_free p.rate ≡ false → p.since ≤ end → AreBetween start end steps → DrainsUpTo most p steps → MayLeave p steps → Kept start end most p steps (pace_after p steps)
kept start end most p [] paced order between up_to may =
    record { until = order; nothing = λ _. refl; owes = omega arith; within = omega arith }
kept start end most p (repaired octets now ∷ before) paced order between up_to may =
    let mid = pace_after p before in
    let was = kept start end most p before paced order between.2 up_to.1 may.2 in
    let slow = drains most p before up_to.1 in
    let left = runs_out (octets_repaired before * 8) mid.owed (drain_of mid) most mid.since now start slow between.0 was.nothing was.owes in
    let unfree : is_free mid.rate ≡ false = subst (λ (r : Rate). is_free r ≡ false) (sym (rate_after p before)) paced in
    let within : owed_at mid now ≤ depth_by p.rate = subst (λ (r : Rate). owed_at mid now ≤ depth_by r) (rate_after p before) (open_owes mid now unfree may.1) in
    let small : owed_at mid now < 2 ^ 62 = omega (arith, within, depth_is_small p.rate) in
    let owed : capped (owed_at mid now + capped (octets * 8)) ≡ owed_at mid now + octets * 8 = adds (owed_at mid now) (octets * 8) small (omega (arith, few, may.0)) in
    record {
      until = omega (arith, was.until, between.1);
      nothing = λ early. absurd (omega (arith, early, between.0));
      owes = omega (arith, left, owed);
      within = omega (arith, left, within, may.0);
    }
kept start end most p (sent octets now ∷ before) paced order between up_to may =
    let mid = pace_after p before in
    let was = kept start end most p before paced order between.2 up_to.1 may in
    let slow = drains most p before up_to.1 in
    let left = runs_out (octets_repaired before * 8) mid.owed (drain_of mid) most mid.since now start slow between.0 was.nothing was.owes in
    let longer : most * (mid.since - start) ≤ most * (max mid.since now - start) = mul-le-mul_left most (omega arith) in
    record {
      until = omega (arith, was.until, between.1);
      nothing = λ early. absurd (omega (arith, early, between.0));
      owes = left;
      within = omega (arith, was.within, longer);
    }
kept start end most p (heard now ∷ before) paced order between up_to may =
    let was = kept start end most p before paced order between.2 up_to.1 may in
    record { until = was.until; nothing = was.nothing; owes = was.owes; within = was.within }

pub keeps : (start end most : ℕ) (p : Pace) (steps : List Step)
    → is_free p.rate ≡ false → p.since ≤ end → AreBetween start end steps → DrainsUpTo most p steps → MayLeave p steps
    → octets_repaired steps * 8 ≤ depth_by p.rate + most * (end - start) + MAX_DATAGRAM * 8
keeps start end most p steps paced order between up_to may =
    let is = kept start end most p steps paced order between up_to may in
    let longer : most * ((pace_after p steps).since - start) ≤ most * (end - start) = mul-le-mul_left most (omega (arith, is.until)) in
    omega (arith, is.within, longer)

-- by kilobits a second the bucket runs out by these
runs_by : (r : Rate) (kilobits : ℕ) (p : Pace) → r ≡ p.rate → r ≡ Kilobits kilobits → drain_of p ≤ max kilobits 1
runs_by r kilobits p is by = subst (λ (r : Rate). drain_beside r p.media.bits ≤ max kilobits 1) is (subst (λ (r : Rate). drain_beside r p.media.bits ≤ max kilobits 1) (sym by) (omega arith))

runs_up_to : (kilobits : ℕ) (p : Pace) (steps : List Step) → p.rate ≡ Kilobits kilobits → DrainsUpTo (max kilobits 1) p steps
runs_up_to kilobits p [] by = runs_by p.rate kilobits p refl by
runs_up_to kilobits p (one ∷ before) by =
    (runs_by (pace_after p (one ∷ before)).rate kilobits (pace_after p (one ∷ before)) refl (rate_after p (one ∷ before) ∙ by), runs_up_to kilobits p before by)

pub keeps_kilobits : (start end kilobits : ℕ) (p : Pace) (steps : List Step)
    → p.rate ≡ Kilobits kilobits → p.since ≤ end → AreBetween start end steps → MayLeave p steps
    → octets_repaired steps * 8 ≤ max kilobits 1 * (end - start) + MAX_DATAGRAM * 8
keeps_kilobits start end kilobits p steps by order between may =
    let paced : is_free p.rate ≡ false = ap is_free by in
    let flat : depth_by p.rate ≡ 0 = ap depth_by by in
    omega (arith, keeps start end (max kilobits 1) p steps paced order between (runs_up_to kilobits p steps by) may, flat)

-- What is measured by an answer that comes twice.
use Rattle.std.proofs.Common.{◌≡◌, ◌<◌, ◌≤◌, ◌+◌, ◌-◌, ◌/◌, ◌^◌, ◌==◌, ◌&&◌, ℕ, Bool, true, false, Option, Some, None, IsSomeAnd, nat_le, refl, sym, ap, subst, ◌∙◌, arith, if◌then◌else◌}
use Rattle.std.proofs.lemmas.Bool.Decides.{nat_tests}
use Rattle.timing.specs.Capped.{capped}
use Rattle.timing.specs.AskTimes.{answer_of}
use Rattle.timing.specs.Lately.{seen_at}
use Rattle.timing.specs.RoundTrip.{doubted, heard_again, heard_at, heard_of, measured, passed_over, probe_doubted, probe_with, probed, raised_with, smoothed_with, time_since}
use Rattle.timing.specs.declared.round_trip.Probe.{Probe}
use Rattle.timing.specs.declared.round_trip.RoundTrip.{RoundTrip}
use Rattle.timing.specs.declared.round_trip.Smoothed.{Smoothed}

-- an estimate that was raised is no shorter than what raised it
no_shorter : (smoothed : Option Smoothed) (r : ℕ) → r ≤ 60000 → r ≤ answer_of (raised_with smoothed r)
no_shorter None r short = omega arith
no_shorter (Some s) r short = by (nat_le r (s.time / 8)) refl
  where
    by : (b : Bool) → nat_le r (s.time / 8) ≡ b → r ≤ answer_of (if b then smoothed_with (Some s) r else smoothed_with None r)
    by true is = let within : r ≤ s.time / 8 = grind (arith, nat_tests, is) in omega (arith, within)
    by false is = omega arith

-- the trip with its first answer heard, which is passed over
module _ (t : RoundTrip) (place asked again came twice : ℕ) where
  abbrev waited : RoundTrip
  waited = record t { probe = Some (record { place = place; asked = asked; again = Some again }); repaired = Some (record { place = place; asked = asked; again = Some again }); unanswered = 0 }

  asked_twice : t.probe ≡ None → doubted (probed t place asked) again ≡ record t { probe = Some (record { place = place; asked = asked; again = Some again }) }
  asked_twice none = ap (λ (p : Option Probe). record t { probe = probe_doubted (probe_with p place asked) again }) none

  passed : t.probe ≡ None → t.doubts < 8 → heard_at (doubted (probed t place asked) again) place came ≡ passed_over waited place asked again came
  passed none few =
      let same : (place == place) ≡ true = grind (arith, nat_tests) in
      let over : nat_le (t.doubts + 1) 8 ≡ true = grind (arith, nat_tests) in
      ap (λ (w : RoundTrip). heard_at w place came) (asked_twice none)
      ∙ ap (λ b. if b then heard_of (Some again) waited place asked came else (false, record t { probe = Some (record { place = place; asked = asked; again = Some again }) })) same
      ∙ ap (λ b. if b then passed_over waited place asked again came else measured waited (time_since asked came)) over

  again_at : (from r : ℕ) → from ≤ twice
      → let first : RoundTrip = record waited { probe = None; answered = Some (record { place = place; time = r; from = from }); doubts = t.doubts + 1 } in
      heard_again first place twice ≡ (true, record first { answered = None; smoothed = Some (raised_with t.smoothed r); doubts = 0; idle = seen_at t.idle (60000 - r) twice })
  again_at from r before =
      let first : RoundTrip = record waited { probe = None; answered = Some (record { place = place; time = r; from = from }); doubts = t.doubts + 1 } in
      let both : (place == place && nat_le from twice) ≡ true = grind (arith, nat_tests, before) in
      ap (λ b. if b then (true, record first { answered = None; smoothed = Some (raised_with t.smoothed r); doubts = 0; idle = seen_at t.idle (60000 - r) twice }) else (false, first)) both

pub found : (t : RoundTrip) (place asked again came twice : ℕ)
    → t.probe ≡ None → t.doubts < 8 → asked ≤ came → came ≤ asked + 60000 → came + (again - asked) / 2 ≤ twice → twice < 2 ^ 64
    → let first = heard_at (doubted (probed t place asked) again) place came in
    let second = heard_again first.1 place twice in
    (first.0 ≡ false) × (second.0 ≡ true) × IsSomeAnd second.1.smoothed (λ s. came ≤ asked + answer_of s)
found t place asked again came twice none few after short half fits =
    let first = passed t place asked again came twice none few in
    let second = ap (λ (x : Bool × RoundTrip). heard_again x.1 place twice) first
    ∙ again_at t place asked again came twice (capped (came + (again - asked) / 2)) (time_since asked came) (omega arith) in
    let least : time_since asked came ≤ answer_of (raised_with t.smoothed (time_since asked came)) = no_shorter t.smoothed (time_since asked came) (omega arith) in (
      ap (λ (x : Bool × RoundTrip). x.0) first,
      ap (λ (x : Bool × RoundTrip). x.0) second,
      subst (λ (x : Bool × RoundTrip). IsSomeAnd x.1.smoothed (λ s. came ≤ asked + answer_of s)) (sym second) (omega (arith, least)),
    )

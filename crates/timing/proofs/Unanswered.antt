-- What is known of an answer that never comes.
use Rattle.std.proofs.Common.{◌≡◌, ◌<◌, ◌≤◌, ◌+◌, ◌-◌, ◌/◌, ◌==◌, ℕ, Bool, true, false, Option, Some, None, IsSomeAnd, min, nat_le, nat_lt, refl, sym, ap, subst, ◌∙◌, arith, if◌then◌else◌}
use Rattle.std.proofs.lemmas.Bool.Decides.{nat_tests}
use Rattle.timing.specs.AskTimes.{answer_of}
use Rattle.timing.specs.RoundTrip.{given_up_at, given_up_of, given_up_with, is_longer, least_of, longer_with, smoothed_with, time_since, unanswered_of}
use Rattle.timing.specs.declared.round_trip.Probe.{Probe}
use Rattle.timing.specs.declared.round_trip.RoundTrip.{RoundTrip}
use Rattle.timing.specs.declared.round_trip.Smoothed.{Smoothed}

no_shorter : (smoothed : Option Smoothed) (r : ℕ) → r ≤ 60000 → IsSomeAnd (longer_with smoothed r) (λ s. r ≤ answer_of s)
no_shorter None r short = omega arith
no_shorter (Some s) r short = by (nat_lt (s.time / 8) r) refl
  where
    by : (b : Bool) → nat_lt (s.time / 8) r ≡ b → IsSomeAnd (if b then Some (smoothed_with None r) else Some s) (λ s. r ≤ answer_of s)
    by true is = omega arith
    by false is = let within : r ≤ s.time / 8 = grind (arith, nat_tests, is) in omega (arith, within)

module _ (t : RoundTrip) (p : Probe) (now : ℕ) (is : t.probe ≡ Some p) where
  abbrev without : RoundTrip
  without = record t { probe = None }

  abbrev waited : ℕ
  waited = time_since p.asked now

  given_up : given_up_at t p.place now ≡ given_up_of without waited now
  given_up =
      let same : (p.place == p.place) ≡ true = grind (arith, nat_tests) in
      ap (λ (probe : Option Probe). given_up_with probe t p.place now) is
      ∙ ap (λ b. if b then given_up_of without waited now else (false, t)) same

  pub says_nothing : least_of t now < 60000 → given_up_at t p.place now ≡ (false, record t { probe = None })
  says_nothing known =
      let is_known : (least_of t now == 60000) ≡ false = grind (arith, nat_tests, known) in
      given_up ∙ ap (λ b. if b then unanswered_of without waited else (false, without)) is_known

  unknown : 60000 ≤ least_of t now → given_up_at t p.place now ≡ unanswered_of without waited
  unknown none =
      let is_none : (least_of t now == 60000) ≡ true = grind (arith, nat_tests, none) in
      given_up ∙ ap (λ b. if b then unanswered_of without waited else (false, without)) is_none

  abbrev by_count : Bool → Bool × RoundTrip
  by_count few =
      if few
      then (false, record without { unanswered = t.unanswered + 1 })
      else (is_longer t.smoothed waited, record without { unanswered = 0; smoothed = longer_with t.smoothed waited })

  pub say_nothing : 60000 ≤ least_of t now → t.unanswered < 2 → given_up_at t p.place now ≡ (false, record t { probe = None; unanswered = t.unanswered + 1 })
  say_nothing none few =
      let within : nat_le (t.unanswered + 1) 2 ≡ true = grind (arith, nat_tests, few) in
      unknown none ∙ ap by_count within

  pub says : 60000 ≤ least_of t now → t.unanswered ≡ 2
      → let after = given_up_at t p.place now in (after.1.unanswered ≡ 0) × IsSomeAnd after.1.smoothed (λ s. min (now - p.asked) 60000 ≤ answer_of s)
  says none two =
      let beyond : nat_le (t.unanswered + 1) 2 ≡ false = grind (arith, nat_tests, two) in
      let all = unknown none ∙ ap by_count beyond in (
        ap (λ (x : Bool × RoundTrip). x.1.unanswered) all,
        subst (λ (x : Bool × RoundTrip). IsSomeAnd x.1.smoothed (λ s. min (now - p.asked) 60000 ≤ answer_of s)) (sym all) (no_shorter t.smoothed waited (omega arith)),
      )

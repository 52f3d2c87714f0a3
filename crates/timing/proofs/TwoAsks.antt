-- Two asks that have their answers in time, though a queue seems to take more.
use Rattle.std.proofs.Common.{◌≡◌, ◌<◌, ◌≤◌, ◌+◌, ◌*◌, ◌/◌, ◌^◌, ℕ, Bool, true, false, min, max, arith}
use Rattle.timing.specs.AskTimes.{answer_where, ask_times, twice_of}
use Rattle.timing.specs.declared.round_trip.Smoothed.{Smoothed}
use Rattle.timing.proofs.Spread.{as_many}

some : (answer idle patience : ℕ) → 0 < answer → 2 ≤ patience → 0 < min answer (max idle (patience / 2))
some answer idle patience takes long = omega arith

half : (answer idle patience : ℕ) → 2 * idle ≤ patience → 2 * min answer (max idle (patience / 2)) ≤ patience
half answer idle patience short = omega arith

pub fit : (answer idle patience : ℕ) → 0 < answer → 2 ≤ patience → patience < 2 ^ 64 → 2 * idle ≤ patience
    → (ask_times (twice_of answer idle patience) patience 0 1).retry + twice_of answer idle patience ≤ patience
fit takes_so_long idle patience long_enough long fits short =
    let answer : ℕ = twice_of takes_so_long idle patience in
    let takes : 0 < answer = some takes_so_long idle patience long_enough long in
    let both : 2 * answer ≤ patience = half takes_so_long idle patience short in
    let spread = as_many answer patience 0 1 1 takes (omega (arith, both)) in
    omega (arith, spread)

pub no_longer : (answer idle patience : ℕ) → twice_of answer idle patience ≤ answer
no_longer answer idle patience = omega arith

pub usual : (answer idle patience : ℕ) → 2 * answer ≤ patience → twice_of answer idle patience ≡ answer
usual answer idle patience short = omega arith

pub idle_at_least : (answer idle patience : ℕ) → idle ≤ answer → idle ≤ twice_of answer idle patience
idle_at_least answer idle patience less = omega arith

pub some_time : (many : Bool) (s : Smoothed) → 0 < answer_where many s
some_time true s = omega arith
some_time false s = omega arith

pub no_less : (many : Bool) (s : Smoothed) → s.time < 2 ^ 64 → s.time / 8 ≤ answer_where many s
no_less true s fits = omega (arith, fits)
no_less false s fits = omega (arith, fits)

pub sooner : (s : Smoothed) → answer_where true s ≤ answer_where false s
sooner s = omega arith

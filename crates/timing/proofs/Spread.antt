-- Asks that are spread over the time that there is.
use Rattle.std.proofs.Common.{◌≡◌, ◌<◌, ◌≤◌, ◌+◌, ◌-◌, ◌*◌, ◌/◌, ◌^◌, ◌==◌, ◌⊎◌, ℕ, zero, suc, min, max, inl, inr, arith, if◌then◌else◌}
use Rattle.std.proofs.Math.Nat.{mul-div-le, lt-div-mul-add, mul-le-mul_right, mul-le-mul_left}
use Rattle.std.proofs.lemmas.Bool.{cases_lt}
use Rattle.std.proofs.lemmas.Nat.{le-div}
use Rattle.timing.specs.AskTimes.{ask_times, delay_of}

self_in : (n : ℕ) → n ≤ n
self_in n = omega arith

some_more : (n room spacing patience : ℕ) → (if suc n == 0 then max spacing patience else room / suc n) ≡ room / suc n
some_more n room spacing patience = grind (arith)

-- with n for how many more fit
apart_of : (n room spacing patience : ℕ) → spacing * n ≤ room → spacing ≤ (if n == 0 then max spacing patience else room / n)
apart_of zero room spacing patience fits = omega arith
apart_of (suc n) room spacing patience fits = rw (some_more n room spacing patience) (le-div spacing room (suc n) (omega arith) fits)

fit_of : (n more room spacing patience : ℕ) → more ≤ n → more * (if n == 0 then max spacing patience else room / n) ≤ room
fit_of zero zero room spacing patience few = grind (arith)
fit_of zero (suc more) room spacing patience few = absurd (omega arith)
fit_of (suc n) more room spacing patience few =
    let least : more * (room / suc n) ≤ suc n * (room / suc n) = mul-le-mul_right (room / suc n) few in
    let whole : suc n * (room / suc n) ≤ room = mul-div-le room (suc n) in
    rw (some_more n room spacing patience) (omega arith)

late_of : (n more room spacing patience answer : ℕ) → n < more → spacing * n ≤ room → answer ≤ spacing → room + answer ≤ patience → room + answer ≤ more * (if n == 0 then max spacing patience else room / n) + more
late_of zero more room spacing patience answer many fits within enough =
    let once : 1 * max spacing patience ≤ more * max spacing patience = mul-le-mul_right (max spacing patience) (omega arith) in
    omega arith
late_of (suc n) more room spacing patience answer many fits within enough =
    let wide : spacing ≤ room / suc n = le-div spacing room (suc n) (omega arith) fits in
    let rest : room < room / suc n * suc n + suc n = lt-div-mul-add (omega arith) in
    let least : suc (suc n) * (room / suc n) ≤ more * (room / suc n) = mul-le-mul_right (room / suc n) (omega arith) in
    rw (some_more n room spacing patience) (grind (arith))

-- so long after the first ask one may still be made
abbrev room_of : (spacing patience reordering asks : ℕ) → ℕ
room_of spacing patience reordering asks = patience - spacing - delay_of spacing patience reordering asks

-- an answer takes some time
one : (answer : ℕ) → 0 < answer → max answer 1 ≡ answer
one answer some = omega arith

pub apart : (answer patience reordering asks : ℕ) → answer ≤ (ask_times answer patience reordering asks).retry
apart answer patience reordering asks =
    let spacing : ℕ = max answer 1 in
    let room : ℕ = room_of spacing patience reordering asks in
    let wide : spacing ≤ (ask_times answer patience reordering asks).retry = apart_of (room / spacing) room spacing patience (mul-div-le room spacing) in
    omega (arith, wide)

-- asks that have their answers in time by one that takes a millisecond at least
before : (answer patience reordering taken : ℕ) → patience < 2 ^ 64 → reordering + taken ≤ patience → min reordering (patience - min taken (2 ^ 64 - 1)) ≡ reordering
before answer patience reordering taken short fits = omega arith

pub early : (answer patience reordering asks : ℕ) → 0 < answer → patience < 2 ^ 64 → reordering + asks * answer ≤ patience → (ask_times answer patience reordering asks).delay ≡ reordering
early answer patience reordering asks some short fits = rw (one answer some) (before answer patience reordering (asks * answer) short fits)

behind : (patience reordering taken least : ℕ) → patience < 2 ^ 64 → least ≤ taken → least ≤ patience → min reordering (patience - min taken (2 ^ 64 - 1)) + least ≤ patience
behind patience reordering taken least short less fits = omega arith

pub no_later : (answer patience reordering asks : ℕ) → patience < 2 ^ 64 → asks * answer ≤ patience → (ask_times answer patience reordering asks).delay + asks * answer ≤ patience
no_later answer patience reordering asks short fits =
    behind patience reordering (asks * max answer 1) (asks * answer) short (mul-le-mul_left asks (omega arith)) fits

none_left : (patience reordering taken : ℕ) → patience < 2 ^ 64 → patience ≤ taken → min reordering (patience - min taken (2 ^ 64 - 1)) ≡ 0
none_left patience reordering taken short all = omega arith

pub at_once : (answer patience reordering asks : ℕ) → patience < 2 ^ 64 → patience ≤ asks * answer → (ask_times answer patience reordering asks).delay ≡ 0
at_once answer patience reordering asks short all =
    let more : asks * answer ≤ asks * max answer 1 = mul-le-mul_left asks (omega arith) in
    none_left patience reordering (asks * max answer 1) short (omega (arith, more))

-- what lies in the room lies in the patience
in_patience : (patience spacing delay ask : ℕ) → delay + spacing ≤ patience → ask ≤ patience - spacing - delay → delay + ask + spacing ≤ patience
in_patience patience spacing delay ask within in_room = omega arith

module _ (spacing patience reordering asks : ℕ) (some : 0 < spacing) where
  abbrev delay : ℕ
  delay = delay_of spacing patience reordering asks

  abbrev room : ℕ
  room = room_of spacing patience reordering asks

  abbrev retry : ℕ
  retry = if room / spacing == 0 then max spacing patience else room / (room / spacing)

  as_many_of : (more : ℕ) → delay + more * spacing + spacing ≤ patience → delay + more * retry + spacing ≤ patience
  as_many_of more fits =
      let few : more ≤ room / spacing = le-div more room spacing some (omega arith) in
      in_patience patience spacing delay (more * retry) (omega arith) (fit_of (room / spacing) more room spacing patience few)

  late_with : (more ask : ℕ) → delay + spacing ≤ patience → room + spacing ≤ ask + more → patience ≤ delay + ask + more
  late_with more ask within late = omega arith

  late_or_not : (more : ℕ) → delay + spacing ≤ patience → (room / spacing < more) ⊎ (more ≤ room / spacing)
      → (delay + more * retry + spacing ≤ patience) ⊎ (patience ≤ delay + more * retry + more)
  late_or_not more within (inr few) = inl (in_patience patience spacing delay (more * retry) within (fit_of (room / spacing) more room spacing patience few))
  late_or_not more within (inl many) =
      inr (late_with more (more * retry) within (late_of (room / spacing) more room spacing patience spacing many (mul-div-le room spacing) (self_in spacing) (omega arith)))

pub as_many : (answer patience reordering asks more : ℕ) → 0 < answer → let t = ask_times answer patience reordering asks in
    t.delay + more * answer + answer ≤ patience → t.delay + more * t.retry + answer ≤ patience
as_many answer patience reordering asks more some = rw (one answer some) (as_many_of answer patience reordering asks some more)

-- the first of one ask or more has its answer in time, where any has
first_in_time : (patience reordering taken spacing : ℕ) → patience < 2 ^ 64 → spacing ≤ taken → spacing ≤ patience → min reordering (patience - min taken (2 ^ 64 - 1)) + spacing ≤ patience
first_in_time patience reordering taken spacing short more fits = omega arith

at_least_one : (spacing asks : ℕ) → 0 < asks → spacing ≤ asks * spacing
at_least_one spacing zero some = absurd (omega (arith, some))
at_least_one spacing (suc asks) some = omega arith

pub not_late : (answer patience reordering asks more : ℕ) → 0 < answer → 0 < asks → patience < 2 ^ 64 → let t = ask_times answer patience reordering asks in
    answer ≤ patience → (t.delay + more * t.retry + answer ≤ patience) ⊎ (patience ≤ t.delay + more * t.retry + more)
not_late answer patience reordering asks more some asked short =
    rw (one answer some) (λ fits. late_or_not answer patience reordering asks some more
    (first_in_time patience reordering (asks * answer) answer short (at_least_one answer asks asked) fits)
    (cases_lt (room_of answer patience reordering asks / answer) more))

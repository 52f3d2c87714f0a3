-- When packets were sent that were lost in a silence.
use Rattle.std.proofs.Common.{◌<◌, ◌≤◌, ◌-◌, ◌*◌, ◌/◌, ◌&&◌, ◌==◌, ◌≡◌, ℕ, Bool, true, false, min, not, nat_le, nat_lt, Option, Some, refl, arith, if◌then◌else◌}
use Rattle.std.proofs.Math.Nat.{div-mul-le_self, div-le_of_le-mul, mul-le-mul_left, mul-le-mul_right}
use Rattle.std.proofs.lemmas.Bool.Decides.{nat_tests}
use Rattle.std.proofs.lemmas.Nat.{le-div}
use Rattle.timing.specs.Capped.{capped}
use Rattle.timing.specs.Arrivals.{is_longer, longer}
use Rattle.timing.specs.Silence.{is_long, lead_of}
use Rattle.timing.specs.declared.arrivals.Arrivals.{Arrivals}
use Rattle.timing.specs.declared.silence.Silence.{Silence}

-- whether a place was lost in it, and its packet's lead where it was
abbrev is_in : Silence → (place : ℕ) → Bool
is_in s place = not (s.peak == 0) && nat_lt s.below place && nat_lt place s.above

abbrev lead_in : Silence → (place : ℕ) → ℕ
lead_in s place = min (capped (s.length * (s.above - place)) / (s.above - s.below)) ((s.above - place) * 1000 / s.peak)

div_mono : (k : ℕ) {m n : ℕ} → 0 < k → m ≤ n → m / k ≤ n / k
div_mono k {m} {n} some less = le-div (m / k) n k some (let h = div-mul-le_self m k in omega arith)

capped_mono : {m n : ℕ} → m ≤ n → capped m ≤ capped n
capped_mono less = omega arith

-- the shorter of two is below what one is below
none_in : (s : Silence) (place : ℕ) → s.below < place → lead_in s place ≤ s.length
none_in s place after =
    let wide : s.length * (s.above - place) ≤ s.length * (s.above - s.below) = mul-le-mul_left s.length (omega arith) in
    let turned : capped (s.length * (s.above - place)) ≤ (s.above - s.below) * s.length = grind (arith, wide) in
    let h = div-le_of_le-mul (s.above - s.below) turned in
    omega arith

none_by : (b : Bool) (s : Silence) (place : ℕ) → is_in s place ≡ b → (if b then lead_in s place else 0) ≤ s.length
none_by true s place is = none_in s place (grind (arith, nat_tests, is))
none_by false s place is = omega arith

pub none_before : (s : Silence) (place : ℕ) → lead_of s place ≤ s.length
none_before s place = none_by (is_in s place) s place refl

less_of : (s : Silence) (place later : ℕ) → is_in s later ≡ true → s.below < place → place ≤ later → lead_in s later ≤ lead_in s place
less_of s place later is after before =
    let above : later < s.above = grind (arith, nat_tests, is) in
    let some_peak : 0 < s.peak = grind (arith, nat_tests, is) in
    let far : s.above - later ≤ s.above - place = omega arith in
    let evenly : capped (s.length * (s.above - later)) / (s.above - s.below) ≤ capped (s.length * (s.above - place)) / (s.above - s.below) =
    div_mono (s.above - s.below) (omega arith) (capped_mono (mul-le-mul_left s.length far)) in
    let fast : (s.above - later) * 1000 / s.peak ≤ (s.above - place) * 1000 / s.peak = div_mono s.peak some_peak (mul-le-mul_right 1000 far) in
    omega arith

order_by : (b c : Bool) (s : Silence) (place later : ℕ) → is_in s later ≡ b → is_in s place ≡ c → s.below < place → place ≤ later → (if b then lead_in s later else 0) ≤ (if c then lead_in s place else 0)
order_by false c s place later is was after before = omega arith
order_by true true s place later is was after before = less_of s place later is after before
order_by true false s place later is was after before = absurd (grind (arith, nat_tests, is, was))

pub in_order : (s : Silence) (place later : ℕ) → s.below < place → place ≤ later → lead_of s later ≤ lead_of s place
in_order s place later after before = order_by (is_in s later) (is_in s place) s place later refl refl after before

slower_by : (b : Bool) (s : Silence) (place : ℕ) → (if b then lead_in s place else 0) * s.peak ≤ (s.above - place) * 1000
slower_by true s place =
    let most : lead_in s place * s.peak ≤ (s.above - place) * 1000 / s.peak * s.peak = mul-le-mul_right s.peak (omega arith) in
    let whole : (s.above - place) * 1000 / s.peak * s.peak ≤ (s.above - place) * 1000 = div-mul-le_self ((s.above - place) * 1000) s.peak in
    omega arith
slower_by false s place = grind (arith)

pub no_slower : (s : Silence) (place : ℕ) → place < s.above → lead_of s place * s.peak ≤ (s.above - place) * 1000
no_slower s place below = slower_by (is_in s place) s place

few_by : (b : Bool) (a : Arrivals) (cursor : Option ℕ) (least : ℕ) (s : Silence) → (is_longer a.silence cursor s && nat_le least s.length && is_long s) ≡ b
    → s.length * s.peak < 4000 → (if b then record a { silence = Some s } else a) ≡ a
few_by true a cursor least s is short = absurd (grind (arith, nat_tests, is, short))
few_by false a cursor least s is short = refl

pub few : (a : Arrivals) (cursor : Option ℕ) (least : ℕ) (s : Silence) → s.length * s.peak < 4000 → longer a cursor least s ≡ a
few a cursor least s short = few_by (is_longer a.silence cursor s && nat_le least s.length && is_long s) a cursor least s refl short

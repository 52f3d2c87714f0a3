-- How few stay lost behind asks.
use Rattle.std.proofs.Common.{◌≡◌, ◌<◌, ◌≤◌, ◌+◌, ◌-◌, ◌*◌, ◌/◌, ◌^◌, ◌==◌, ◌&&◌, ℕ, zero, suc, Bool, true, false, nat_le, nat_lt, ◌↔◌, refl, ap, ◌∙◌, arith, if◌then◌else◌}
use Rattle.std.proofs.Math.Nat.{mul-le-mul, mul-div_cancel, pow-suc, pow-zero}
use Rattle.std.proofs.lemmas.Bool.Decides.{nat_tests}
use Rattle.timing.specs.Capped.{capped}
use Rattle.timing.specs.Losses.{are_many, asks_where, lost_of}
use Rattle.timing.specs.declared.losses.Tally.{Tally}

uncapped : (n taken : ℕ) → taken + 1 < 2 ^ 64 → nat_le (capped n) taken ≡ true → n ≤ taken
uncapped n taken short is =
    let within : capped n ≤ taken = grind (arith, nat_tests, is) in
    omega (arith, within)

one_power : (n : ℕ) → n ^ 1 ≡ n
one_power n = let e : n ^ 1 ≡ n ^ 0 * n = pow-suc n 0 in let z : n ^ 0 ≡ 1 = pow-zero n in e ∙ ap (λ (m : ℕ). m * n) z ∙ (omega arith)

square : (n : ℕ) → n ^ 2 ≡ n * n
square n = pow-suc n 1 ∙ ap (λ (m : ℕ). m * n) (one_power n)

cube : (n : ℕ) → n ^ 3 ≡ n * n * n
cube n = pow-suc n 2 ∙ ap (λ (m : ℕ). m * n) (square n)

one_of : (lost taken : ℕ) → lost * 1000 ≤ taken → lost ^ 1 * 512 ≤ taken ^ 1
one_of lost taken few = rw (one_power lost) (rw (one_power taken) (omega (arith, few)))

two_of : (lost taken : ℕ) → lost * 32 ≤ taken → lost ^ 2 * 512 ≤ taken ^ 2
two_of lost taken few =
    let squared : lost * 32 * (lost * 32) ≤ taken * taken = mul-le-mul few few in
    let least : lost * lost * 512 ≤ taken * taken = omega (arith, squared) in
    rw (square lost) (rw (square taken) least)

three_of : (lost taken : ℕ) → lost * 8 ≤ taken → lost ^ 3 * 512 ≤ taken ^ 3
three_of lost taken few =
    let squared : lost * 8 * (lost * 8) ≤ taken * taken = mul-le-mul few few in
    let cubed : lost * 8 * (lost * 8) * (lost * 8) ≤ taken * taken * taken = mul-le-mul squared few in
    let least : lost * lost * lost * 512 ≤ taken * taken * taken = omega (arith, cubed) in
    rw (cube lost) (rw (cube taken) least)

abbrev few_after : (lost taken asks : ℕ) → Type 0
few_after lost taken asks = asks < 3 → lost ^ (asks + 1) * 512 ≤ taken ^ (asks + 1)

by_two : (b : Bool) (lost taken : ℕ) → taken + 1 < 2 ^ 64 → nat_le (capped (lost * 8)) taken ≡ b → few_after lost taken (if b then 2 else 3)
by_two true lost taken short is few = three_of lost taken (uncapped (lost * 8) taken short is)
by_two false lost taken short is few = absurd (omega (arith, few))

by_one : (b : Bool) (lost taken : ℕ) → taken + 1 < 2 ^ 64 → nat_le (capped (lost * 32)) taken ≡ b → few_after lost taken (if b then 1 else (if nat_le (capped (lost * 8)) taken then 2 else 3))
by_one true lost taken short is few = two_of lost taken (uncapped (lost * 32) taken short is)
by_one false lost taken short is few = by_two (nat_le (capped (lost * 8)) taken) lost taken short refl few

by_none : (b : Bool) (lost taken : ℕ) → taken + 1 < 2 ^ 64 → nat_le (capped (lost * 1000)) taken ≡ b
    → few_after lost taken (if b then 0 else (if nat_le (capped (lost * 32)) taken then 1 else (if nat_le (capped (lost * 8)) taken then 2 else 3)))
by_none true lost taken short is few = one_of lost taken (uncapped (lost * 1000) taken short is)
by_none false lost taken short is few = by_one (nat_le (capped (lost * 32)) taken) lost taken short refl few

pub stay_lost : (lost taken : ℕ) → taken + 1 < 2 ^ 64 → asks_where lost taken < 3 → lost ^ (asks_where lost taken + 1) * 512 ≤ taken ^ (asks_where lost taken + 1)
stay_lost lost taken short few = by_none (nat_le (capped (lost * 1000)) taken) lost taken short refl few

at_most : (a b c : Bool) → (if a then 0 else (if b then 1 else (if c then 2 else 3))) ≤ 3
at_most true b c = omega arith
at_most false true c = omega arith
at_most false false true = omega arith
at_most false false false = omega arith

pub no_more : (lost taken : ℕ) → asks_where lost taken ≤ 3
no_more lost taken = at_most (nat_le (capped (lost * 1000)) taken) (nat_le (capped (lost * 32)) taken) (nat_le (capped (lost * 8)) taken)

-- the share that is needed
with_share : (measured : ℕ) (t : Tally) → t.measured ≡ suc measured → lost_of t ≡ capped (t.repaired * (t.measured - t.needless)) / t.measured
with_share measured t some =
    let is : (t.measured == 0) ≡ false = grind (arith, nat_tests, some) in
    ap (λ (b : Bool). if b then t.repaired else capped (t.repaired * (t.measured - t.needless)) / t.measured) is

pub all_needless : (t : Tally) → 0 < t.measured → t.measured ≤ t.needless → lost_of t ≡ 0
all_needless t some all =
    let is : (t.measured == 0) ≡ false = grind (arith, nat_tests, some) in
    let none : capped (t.repaired * (t.measured - t.needless)) ≡ 0 = zero_of t.repaired (t.measured - t.needless) (omega (arith, all)) in
    ap (λ (b : Bool). if b then t.repaired else capped (t.repaired * (t.measured - t.needless)) / t.measured) is ∙ ap (λ (n : ℕ). n / t.measured) none ∙ zero_div t.measured
  where
    zero_of : (n m : ℕ) → m ≡ 0 → capped (n * m) ≡ 0
    zero_of n m none = grind (arith, none)

    zero_div : (n : ℕ) → 0 / n ≡ 0
    zero_div n = grind (arith)

pub all_needed : (t : Tally) → t.needless ≡ 0 → t.repaired * t.measured < 2 ^ 64 → lost_of t ≡ t.repaired
all_needed t none short = by t.measured refl
  where
    whole : (measured : ℕ) → t.measured ≡ suc measured → capped (t.repaired * (t.measured - t.needless)) / t.measured ≡ t.repaired
    whole measured some =
        let left : t.measured - t.needless ≡ t.measured = omega (arith, none) in
        let same : capped (t.repaired * (t.measured - t.needless)) ≡ t.repaired * t.measured = ap (λ (n : ℕ). capped (t.repaired * n)) left ∙ omega (arith, short) in
        ap (λ (n : ℕ). n / t.measured) same ∙ mul-div_cancel t.repaired (omega (arith, some))

    by : (measured : ℕ) → t.measured ≡ measured → lost_of t ≡ t.repaired
    by zero nothing = let is : (t.measured == 0) ≡ true = grind (arith, nat_tests, nothing) in
        ap (λ (b : Bool). if b then t.repaired else capped (t.repaired * (t.measured - t.needless)) / t.measured) is
    by (suc measured) some = with_share measured t some ∙ whole measured some

pub many : (t : Tally) → lost_of t * 8 < 2 ^ 64 → (are_many t ≡ true) ↔ ((4 ≤ lost_of t) × (t.taken < lost_of t * 8))
many t fits = by (lost_of t) fits
  where
    by : (lost : ℕ) → lost * 8 < 2 ^ 64 → ((nat_le 4 lost && nat_lt t.taken (capped (lost * 8))) ≡ true) ↔ ((4 ≤ lost) × (t.taken < lost * 8))
    by lost short = (λ is. (grind (arith, nat_tests, is, short), grind (arith, nat_tests, is, short)), λ more. grind (arith, nat_tests, more.0, more.1, short))

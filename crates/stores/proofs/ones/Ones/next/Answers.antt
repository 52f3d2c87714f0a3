use Rattle.std.proofs.Common.{◌≡◌, ℕ, ◌+◌, ◌-◌, ◌/◌, ◌%◌, ◌^◌, ap, sym, ◌∙◌, arith, rules, w64}
use Rattle.std.specs.Int.{bit_at, trailing_zeros}
use Rattle.std.proofs.lemmas.Nat.{shr-shr}
use Rattle.std.proofs.lemmas.Nat.Bits.{bit_at-trailing_zeros}
use Rattle.stores.proofs.Blocks.{not_covered}
use Rattle.stores.proofs.ones.Ones.next.Goals as goal

-- a bit of what is left above the bit number t
above_one : (bits t k : ℕ) → bit_at (bits / 2 ^ t / 2) k ≡ bit_at bits (t + 1 + k)
above_one bits t k =
    ap (λ n. n / 2 ^ k % 2) (shr-shr bits t 1)
    ∙ ap (λ n. n % 2) (shr-shr bits (t + 1) k)

pub returns-clause-none : goal.returns-clause-none
returns-clause-none c = λ test end covers p above below within.
    let run = c.args.self.now in
    let first = bit_at-trailing_zeros w64 run.bits (omega (arith, c.if-self-eq0.false)) (search rules) in
    not_covered run test end p covers above within (first.2 (p - run.position) (omega arith))

pub returns-clause-left : goal.returns-clause-left
returns-clause-left c = λ test end covers p above below is.
    let run = c.args.self.now in
    let t : ℕ = trailing_zeros w64 run.bits in
    let k : ℕ = p - (run.position + t + 1) in
    let at : t + 1 + k ≡ p - run.position = omega arith in
    above_one run.bits t k ∙ ap (bit_at run.bits) at ∙ covers p (omega arith) below is

pub returns-clause-below : goal.returns-clause-below
returns-clause-below c = λ end is.
    let run = c.args.self.now in
    let first = bit_at-trailing_zeros w64 run.bits (omega (arith, c.if-self-eq0.false)) (search rules) in
    is (trailing_zeros w64 run.bits) first.1

pub returns-clause-kept : goal.returns-clause-kept
returns-clause-kept c = λ end is k one.
    let run = c.args.self.now in
    let t : ℕ = trailing_zeros w64 run.bits in
    let far = is (t + 1 + k) (sym (above_one run.bits t k) ∙ one) in
    omega (arith, far)

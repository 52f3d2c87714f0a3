use Rattle.std.proofs.Common.{◌≡◌, ℕ, ◌-◌, ◌<◌, ◌^◌, ◌/◌, ap, ◌∙◌, arith, rules, ⊎_elim}
use Rattle.std.specs.Int.{bit_at}
use Rattle.std.proofs.lemmas.Bool.{cases_lt}
use Rattle.std.proofs.lemmas.Bool.Decides.{nat_tests}
use Rattle.std.proofs.lemmas.Nat.Bits.{bit_at_above}
use Rattle.stores.proofs.Blocks.{both_bits, other_bit, member_in_rest}
use Rattle.stores.proofs.bits.Bits.ones.Goals as goal

pub returns-clause-covers : goal.returns-clause-covers
returns-clause-covers c = λ p above below is.
    let bits = c.args.self.now in
    let block = c.args.block in
    let from = c.new.ensures.position in
    let near = c.requires.near in
    let d : ℕ = p - c.new.result.position in
    let same : d ≡ p - block.start = omega arith in
    let inside : d < c.args.end - block.start = omega arith in
    let masked = c.mask.ensures d (omega arith) in
    both_bits (c.index.result.now / 2 ^ block.bit) c.mask.result c.new.result.bits d c.new.ensures.bits
    (ap (bit_at (c.index.result.now / 2 ^ block.bit)) same
    ∙ member_in_rest bits.words.items bits.front block c.index.result.now p c.args.end c.requires.block c.index.ensures (omega arith) below c.requires.end c.requires.near is)
    (grind (arith, nat_tests, masked, inside))

pub returns-clause-below : goal.returns-clause-below
returns-clause-below c = λ k one.
    let from = c.new.ensures.position in
    let order = c.requires.order in
    let other = other_bit (c.index.result.now / 2 ^ c.args.block.bit) c.mask.result c.new.result.bits k c.new.ensures.bits one in
    ⊎_elim
    (λ (small : k < 64).
    let masked = c.mask.ensures k small in
    let within : k < c.args.end - c.args.block.start = grind (arith, nat_tests, masked, other) in
    omega arith)
    (λ large. absurd (let zero = bit_at_above c.mask.result 64 k (search rules) (omega (arith, large)) in omega (arith, zero, other)))
    (cases_lt k 64)

use Rattle.std.proofs.Common.{◌≡◌, ℕ, ◌/◌, ◌%◌, ◌^◌, ◌<◌, ◌≤◌, false, true, nat_lt, get_or, refl, arith, ltb-true, ltb-false}
use Rattle.std.proofs.lemmas.Bool.{cond_both}
use Rattle.std.proofs.lemmas.Nat.{shr_le}
use Rattle.stores.specs.Bits.{is_set}
use Rattle.stores.proofs.BitWords.{rest_is_zero, rest_is_some}
use Rattle.stores.proofs.bits.first_bit.Goals as goal

-- what was not set below the bit, and is not set from there on
joined : (words : _) (from bit end : ℕ) → ((b : ℕ) → from ≤ b → b < bit → is_set words b ≡ false) → ((b : ℕ) → bit ≤ b → b < end → is_set words b ≡ false) →
    (b : ℕ) → from ≤ b → b < end → is_set words b ≡ false
joined words from bit end below above b l u = cond_both (nat_lt b bit) true false (λ _. is_set words b ≡ false) (λ e. below b l (ltb-true b bit e)) (λ e. above b (ltb-false b bit e) u)

pub returns-then-first-end : goal.returns-then-first-end
returns-then-first-end c =
    let word = get_or c.args.words.now (c.loop-bit.bit / 64) 0 in
    let fits : word < 2 ^ 64 = omega (arith, c.type_inv.words (c.loop-bit.bit / 64)) in
    let less = shr_le word (c.loop-bit.bit % 64) in
    let inv = c.loop-bit.invariant in
    let found = rest_is_some c.args.words.now c.loop-bit.bit _ refl c.if-rest-ne0.true fits (omega arith) in
    (omega arith, c.if-first-end.true, found.0, joined c.args.words.now c.args.from c.loop-bit.bit _ inv.none found.1)

pub returns-else-first-end : goal.returns-else-first-end
returns-else-first-end c =
    let word = get_or c.args.words.now (c.loop-bit.bit / 64) 0 in
    let fits : word < 2 ^ 64 = omega (arith, c.type_inv.words (c.loop-bit.bit / 64)) in
    let less = shr_le word (c.loop-bit.bit % 64) in
    let inv = c.loop-bit.invariant in
    let above = c.if-first-end.false in
    let found = rest_is_some c.args.words.now c.loop-bit.bit _ refl c.if-rest-ne0.true fits (omega arith) in
    joined c.args.words.now c.args.from c.loop-bit.bit c.args.end inv.none (λ b l u. found.1 b l (omega arith))

pub loop-bit-preserved : goal.loop-bit-preserved
loop-bit-preserved c =
    let inv = c.loop-bit.invariant in
    record {
      above = omega arith;
      none = joined _ _ c.loop-bit.bit _ inv.none (λ b l u. rest_is_zero c.args.words.now c.loop-bit.bit b _ refl c.if-rest-ne0.false l u);
    }

use Rattle.std.proofs.Common.{◌≡◌, ◌≤◌, ◌+◌, ◌-◌, ◌/◌, ◌%◌, ◌^◌, true, length, ap, sym, subst, ◌∙◌, arith}
use Rattle.std.specs.Int.{bit_at}
use Rattle.stores.specs.Bits.{is_set}
use Rattle.stores.proofs.BitWords.{set_in_rest}
use Rattle.stores.proofs.Blocks.{turned_along}
use Rattle.stores.proofs.bits.Bits.run.Goals as goal

pub returns-clause-covers : goal.returns-clause-covers
returns-clause-covers c = λ end fits near p above below is.
    let bits = c.args.self.now in
    let words = bits.words.items in
    let bit = c.bit_of-bit.result in
    let position = c.args.position in
    let from = c.new.ensures.position in
    let at = turned_along (length words) bits.front position p end bit c.bit_of-bit.ensures.bit c.bit_of-bit.ensures.within (omega arith) below (subst (λ n. end + n % 64 ≤ position + 64) (sym c.bit_of-bit.ensures.bit) near) in
    let set : is_set words (bit + (p - position)) ≡ true = ap (is_set words) (sym at) ∙ is in
    let apart : p - c.new.result.position ≡ bit + (p - position) - bit = omega arith in
    ap (λ w. bit_at w (p - c.new.result.position)) c.new.ensures.bits
    ∙ ap (bit_at (c.index.result.now / 2 ^ (bit % 64))) apart
    ∙ set_in_rest words bit (bit + (p - position)) c.index.result.now (omega (arith, c.bit_of-bit.ensures.within)) c.index.ensures (omega arith) (omega arith) set

-- The words of a set's bits, by their positions.
use Rattle.std.proofs.Common.{Bool, false, ⊎_elim, ◌≡◌, ℕ, ◌+◌, ◌-◌, ◌*◌, ◌/◌, ◌%◌, ◌^◌, ◌<◌, ◌≤◌, ◌∙◌, true, List, length, get_or, min, ap, sym, subst, arith, bit_and}
use Rattle.std.specs.Int.{bit_at}
use Rattle.std.proofs.lemmas.Nat.Bits.{bit_at_and, bit_at-lt}
use Rattle.std.proofs.lemmas.Bool.Decides.{nat_tests}
use Rattle.std.proofs.lemmas.Bool.{cases_Bool}
use Rattle.stores.specs.declared.block.Block.{Block}
use Rattle.stores.specs.declared.ones.Ones.{Ones}
use Rattle.stores.specs.Ones.{HasEach}
use Rattle.stores.specs.Bits.{turned, is_set, is_member}
use Rattle.stores.specs.Block.{IsBlock}
use Rattle.stores.specs.Block.{bit_in_word, word_of}
use Rattle.stores.proofs.BitWords.{set_in_rest}

-- positions of one run are as far apart as their bits
pub turned_along : (words front position p end bit : ℕ) → bit ≡ turned (64 * words) front position → bit < 64 * words → position ≤ p → p < end → end + bit % 64 ≤ position + 64 →
    turned (64 * words) front p ≡ bit + (p - position)
turned_along words front position p end bit is within above below near =
    let low : bit + (p - position) < 64 * words = omega arith in
    grind (arith, nat_tests)

-- a position of a block has the block's word, and a bit as far from the first one
pub block_along : (words front : ℕ) (block : Block) (p end : ℕ) → IsBlock words front block → block.start ≤ p → p < end → end ≤ 64 * words → end + block.bit ≤ block.start + 64 →
    turned (64 * words) front p ≡ 64 * block.word + block.bit + (p - block.start)
block_along words front block p end is above below fits near =
    let word = is.word in
    let bit = is.bit in
    let at = is.at (omega arith) in
    turned_along words front block.start p end (64 * block.word + block.bit) (omega (arith, at)) (omega arith) above below (omega arith)

pub block_word : (words front : ℕ) (block : Block) (p end : ℕ) → IsBlock words front block → block.start ≤ p → p < end → end ≤ 64 * words → end + block.bit ≤ block.start + 64 → word_of words front p ≡ block.word
block_word words front block p end is above below fits near = let at = block_along words front block p end is above below fits near in omega (arith, at)

pub block_bit : (words front : ℕ) (block : Block) (p end : ℕ) → IsBlock words front block → block.start ≤ p → p < end → end ≤ 64 * words → end + block.bit ≤ block.start + 64 → bit_in_word words front p ≡ block.bit + (p - block.start)
block_bit words front block p end is above below fits near = let at = block_along words front block p end is above below fits near in omega (arith, at)

-- a bit of two words is one of both
pub both_bits : (rest mask bits d : ℕ) → bits ≡ bit_and rest mask → bit_at rest d ≡ 1 → bit_at mask d ≡ 1 → bit_at bits d ≡ 1
both_bits rest mask bits d e one other = ap (λ b. bit_at b d) e ∙ bit_at_and rest mask d ∙ ap (λ n. min n (bit_at mask d)) one ∙ ap (min 1) other

pub other_bit : (rest mask bits d : ℕ) → bits ≡ bit_and rest mask → bit_at bits d ≡ 1 → bit_at mask d ≡ 1
other_bit rest mask bits d e is =
    let both : 1 ≡ min (bit_at rest d) (bit_at mask d) = sym is ∙ ap (λ b. bit_at b d) e ∙ bit_at_and rest mask d in
    let small = bit_at-lt mask d in
    grind (arith, both, small)

-- a member of a block is a bit of what is left of its word
pub member_in_rest : (words : List ℕ) (front : ℕ) (block : Block) (word p end : ℕ) → IsBlock (length words) front block → word ≡ get_or words block.word word → block.start ≤ p → p < end → end ≤ 64 * length words →
    end + block.bit ≤ block.start + 64 → is_member words front p ≡ true → bit_at (word / 2 ^ block.bit) (p - block.start) ≡ 1
member_in_rest words front block word p end is read above below fits near member =
    let base : ℕ = 64 * block.word + block.bit in
    let inside = is.word in
    let small = is.bit in
    let quotient : base / 64 ≡ block.word = omega arith in
    let rest : base % 64 ≡ block.bit = omega arith in
    let at = block_along (length words) front block p end is above below fits near in
    let set : is_set words (base + (p - block.start)) ≡ true = ap (is_set words) (sym at) ∙ member in
    let apart : base + (p - block.start) - base ≡ p - block.start = omega arith in
    subst (λ n. bit_at (word / 2 ^ n) (p - block.start) ≡ 1) rest
    (ap (bit_at (word / 2 ^ (base % 64))) (sym apart)
    ∙ set_in_rest words base (base + (p - block.start)) word (omega arith) (read ∙ ap (λ n. get_or words n word) (sym quotient)) (omega arith) (omega arith) set)

-- no position passes the test whose bit is 0
pub not_covered : (run : Ones) (test : ℕ → Bool) (end p : ℕ) → HasEach run test end → run.position ≤ p → p < end → bit_at run.bits (p - run.position) ≡ 0 → test p ≡ false
not_covered run test end p covers above below zero =
    ⊎_elim
    (λ (is : test p ≡ true). absurd (let one = covers p above below is in omega arith))
    (λ is. is)
    (cases_Bool (test p))

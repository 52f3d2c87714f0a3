use Rattle.std.proofs.Common.{◌≡◌, ℕ, ◌+◌, ◌<◌, true, ◌∙◌, refl, arith}
use Rattle.std.specs.Prelude.{if◌then◌else◌}
use Rattle.stores.specs.Bits.{bits_of, is_member, is_between}
use Rattle.stores.proofs.BitMoves.{run_members, size_after_range}
use Rattle.stores.proofs.BitCounts.{size_of_within}
use Rattle.stores.proofs.bits.Bits.set_range.Goals as goal

pub overflow_add-self : goal.overflow_add-self
overflow_add-self c =
    let before = c.args.self.now in
    let few = size_of_within before.words.items in
    let counted = before.counted in
    let limit = before.limit in
    let fits = c.requires.within in
    omega arith

ranged : (c : goal.After-self-1) → (p : ℕ) → p < bits_of c.args.self.now.words.items →
    is_member c.set_bits-2.new.words.items c.args.self.now.front p ≡ (if is_between c.args.from (c.args.from + c.args.count) p then true else is_member c.args.self.now.words.items c.args.self.now.front p)
ranged c =
    let before = c.args.self.now in
    run_members (bits_of before.words.items) before.front c.args.from c.args.count c.min.result c.min-2.result c.saturating_sub.result c.saturating_sub-2.result before.within c.requires.within
    (omega arith) (omega arith) (omega arith) (omega arith) before.words.items c.set_bits.new.words.items c.set_bits-2.new.words.items true refl (c.set_bits-2.ensures.words ∙ c.set_bits.ensures.words)
    c.set_bits.ensures.bits c.set_bits-2.ensures.bits

pub returns-clause-members : goal.returns-clause-members
returns-clause-members c = ranged c

pub returns-clause-size : goal.returns-clause-size
returns-clause-size c =
    let before = c.args.self.now in
    let long = c.set_bits-2.ensures.words ∙ c.set_bits.ensures.words in
    let within = before.within in
    size_after_range before.words.items c.set_bits-2.new.words.items before.front before.front c.args.from c.args.count long before.within (omega arith) c.requires.within c.requires.none (ranged c)

pub invariant_of-self-clause-counted : goal.invariant_of-self-clause-counted
invariant_of-self-clause-counted c =
    let before = c.args.self.now in
    let counted = before.counted in
    let long = c.set_bits-2.ensures.words ∙ c.set_bits.ensures.words in
    let within = before.within in
    let more = size_after_range before.words.items c.set_bits-2.new.words.items before.front before.front c.args.from c.args.count long before.within (omega arith) c.requires.within c.requires.none
    (run_members (bits_of before.words.items) before.front c.args.from c.args.count c.min.result c.min-2.result c.saturating_sub.result c.saturating_sub-2.result before.within c.requires.within
    (omega arith) (omega arith) (omega arith) (omega arith) before.words.items c.set_bits.new.words.items c.set_bits-2.new.words.items true refl long c.set_bits.ensures.bits c.set_bits-2.ensures.bits) in
    omega arith

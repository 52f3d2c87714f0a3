use Rattle.std.proofs.Common.{sym, ◌∙◌, arith}
use Rattle.stores.proofs.BitCounts.{no_member}
use Rattle.stores.proofs.bits.Bits.first.Goals as goal

pub returns-then-self-eq0 : goal.returns-then-self-eq0
returns-then-self-eq0 c =
    let bits = c.args.self.now in
    λ p above below. no_member bits.words.items bits.front p (sym bits.counted ∙ c.if-self-eq0.true) bits.within (let ends = c.requires in omega arith)

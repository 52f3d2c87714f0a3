use Rattle.std.proofs.Common.{◌≤◌, ◌-◌, arith}
use Rattle.std.proofs.lemmas.Nat.{mod_below}
use Rattle.srtp.proofs.Taken.{answer_taken, answer_new}
use Rattle.srtp.proofs.replay.Replay.check.Goals as goal

pub returns-then-self-index : goal.returns-then-self-index
returns-then-self-index g c = λ taken held.
    let n = c.args.self.now.enough in
    let young : c.args.self.now.next - g.row.N ≤ c.args.index = omega (arith, c.saturating_sub.ensures) in
    answer_taken g.row.N c.args.self.now.next c.args.index c.args.self.now.places taken held young (mod_below c.args.index g.row.N (omega (arith, n)))
    c.if-self-index.true

pub returns-else-self-index : goal.returns-else-self-index
returns-else-self-index g c = λ taken held.
    let n = c.args.self.now.enough in
    let young : c.args.self.now.next - g.row.N ≤ c.args.index = omega (arith, c.saturating_sub.ensures) in
    answer_new g.row.N c.args.self.now.next c.args.index c.args.self.now.places taken held young (mod_below c.args.index g.row.N (omega (arith, n)))
    c.if-self-index.false

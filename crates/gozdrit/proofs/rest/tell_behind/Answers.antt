use Rattle.std.proofs.Common.{arith}
use Rattle.std.proofs.lemmas.Bool.Decides.{nat_tests}
use Rattle.gozdrit.proofs.Behind.{stays}
use Rattle.gozdrit.proofs.rest.tell_behind.Goals as goal

pub returns-then-len-lt8 : goal.returns-then-len-lt8
returns-then-len-lt8 g c =
    let whole = c.requires.rest in
    let is = c.saturating_sub-len.ensures in
    let short = c.if-len-lt8.true in
    stays c.args.lent.now c.args.number (grind (arith, nat_tests, whole, is, short))

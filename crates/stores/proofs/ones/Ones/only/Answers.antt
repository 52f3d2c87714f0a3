use Rattle.std.proofs.Common.{◌-◌, ◌<◌, ap, ◌∙◌, arith, ⊎_elim}
use Rattle.std.specs.Int.{bit_at}
use Rattle.std.proofs.lemmas.Bool.{cases_lt}
use Rattle.std.proofs.lemmas.Nat.Bits.{bit_at-zero}
use Rattle.stores.proofs.Blocks.{not_covered}
use Rattle.stores.proofs.ones.Ones.only.Goals as goal

-- what comes behind it has no bit
pub returns-clause-others : goal.returns-clause-others
returns-clause-others c = λ test end covers p above below apart.
    let found = c.in_ok-found.found in
    let rest = c.next.new.self in
    let on = c.in_ok-found.ensures.position in
    ⊎_elim
    (λ (early : p < found). c.in_ok-found.ensures.none test end covers p above early below)
    (λ late. not_covered rest test end p (c.in_ok-found.ensures.left test end covers) (omega (arith, late, apart)) below
    (ap (λ b. bit_at b (p - rest.position)) c.if-rest-ne0.false ∙ bit_at-zero (p - rest.position)))
    (cases_lt p found)

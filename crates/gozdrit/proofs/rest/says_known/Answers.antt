use Rattle.gozdrit.proofs.RestBack.{rest_back}
use Rattle.gozdrit.proofs.rest.says_known.Goals as goal

pub returns-then-size-known-clause-same : goal.returns-then-size-known-clause-same
returns-then-size-known-clause-same g c = rest_back c.args.lent.now c.rest.result.now c.rest.ensures.value

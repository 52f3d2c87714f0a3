use Rattle.std.proofs.Common.{◌^◌, ◌<◌, ℕ, subst}
use Rattle.receiver.proofs.config.ReceiverConfig.rule.Goals as goal

pub returns-clause-few : goal.returns-clause-few
returns-clause-few c = subst (λ (n : ℕ). n < 2 ^ 8) c.asks-asks.ensures c.asks-asks.type_inv

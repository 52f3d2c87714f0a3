use Rattle.sender.proofs.SameSteps.{one_retransmission}
use Rattle.sender.proofs.laws.repairing_is_determined.Goals as goal

pub returns : goal.returns
returns c = λ s old x y v w a b. one_retransmission old v w s c.repair_is_determined.ensures.same x y a b

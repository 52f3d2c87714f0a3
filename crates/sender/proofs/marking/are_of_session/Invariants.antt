use Rattle.std.proofs.Common.{◌≡◌}
use Rattle.sender.specs.Feedback.{first_wrong}
use Rattle.sender.proofs.marking.are_of_session.Given as goal

-- what is left decides
abbrev pub invariant-loop-nack : goal.invariant-loop-nack
invariant-loop-nack l = first_wrong l.config l.fn.nacks ≡ first_wrong l.config l.nack-iterator

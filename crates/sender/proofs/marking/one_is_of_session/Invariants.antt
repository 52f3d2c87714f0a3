use Rattle.std.proofs.Common.{◌≡◌, Some}
use Rattle.sender.specs.Shared.{ours, first_fault}
use Rattle.sender.proofs.marking.one_is_of_session.Given as goal

-- what is left decides, and the first is wrong
abbrev pub invariant-loop-nack : goal.invariant-loop-nack
invariant-loop-nack l = record { left : ours l.config l.fn.nacks ≡ ours l.config l.nack-iterator; first : first_fault l.config l.fn.nacks ≡ Some l.fault }

use Rattle.std.proofs.Common.{◌≡◌, None}
use Rattle.endpoint.specs.Answering.{last_named}
use Rattle.endpoint.proofs.answering.last_named.Given as goal

-- what is left comes to the same
abbrev pub invariant-loop-nack : goal.invariant-loop-nack
invariant-loop-nack l = last_named l.config l.last l.nack-iterator ≡ last_named l.config None l.fn.nacks

use Rattle.std.proofs.Common.{◌≡◌}
use Rattle.endpoint.specs.Answering.{last_of}
use Rattle.endpoint.proofs.answering.last_of.Given as goal

-- what is left comes to the same
abbrev pub invariant-loop-number : goal.invariant-loop-number
invariant-loop-number l = last_of l.last l.number-iterator ≡ last_of l.fn.before l.fn.numbers

use Rattle.std.proofs.Common.{◌≡◌, None}
use Rattle.endpoint.specs.Answering.{last_pair}
use Rattle.endpoint.proofs.answering.last_pair.Given as goal

-- what is left comes to the same
abbrev pub invariant-loop-pair : goal.invariant-loop-pair
invariant-loop-pair l = last_pair l.last l.pair-iterator ≡ last_pair None l.fn.pairs

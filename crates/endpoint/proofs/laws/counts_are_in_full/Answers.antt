use Rattle.std.proofs.Common.{ℕ, arith}
use Rattle.endpoint.specs.Counts.{count_in_64, IsInFull}
use Rattle.endpoint.proofs.laws.counts_are_in_full.Goals as goal

in_full : (n : ℕ) → IsInFull (count_in_64 n) n
in_full n = record { below = λ l. omega arith; above = λ l. omega arith }

pub returns-clause-receiving : goal.returns-clause-receiving
returns-clause-receiving c = λ events. (in_full _, in_full _, in_full _, in_full _, in_full _, in_full _, in_full _, in_full _, in_full _, in_full _, in_full _, in_full _, in_full _, in_full _, in_full _, in_full _)

pub returns-clause-sending : goal.returns-clause-sending
returns-clause-sending c = λ events. (in_full _, in_full _, in_full _, in_full _, in_full _, in_full _, in_full _, in_full _, in_full _, in_full _, in_full _)

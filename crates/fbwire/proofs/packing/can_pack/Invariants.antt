use Rattle.std.proofs.Common.{ℕ, ◌+◌, ◌<◌, get_or}
use Rattle.fbwire.proofs.packing.can_pack.Given as goal

-- the places so far rise
abbrev pub invariant-loop-index : goal.invariant-loop-index
invariant-loop-index l = (k : ℕ) → k + 1 < l.index → get_or l.places k 0 < get_or l.places (k + 1) 0

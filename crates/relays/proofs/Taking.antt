-- How long bits take at a rate.
use Rattle.std.proofs.Common.{◌≡◌, ◌+◌, ◌-◌, ◌*◌, ◌/◌, ◌<◌, ◌≤◌, ◌↔◌, ℕ, nat_le, arith}
use Rattle.std.proofs.Math.Nat.{le-div_iff_mul-le}

-- not before so many milliseconds
taken : (bits kilobits passed : ℕ) → 0 < bits → (passed ≤ (bits - 1) / kilobits) ↔ (passed * kilobits ≤ bits - 1) → nat_le ((bits - 1) / kilobits + 1) passed ≡ nat_le bits (kilobits * passed)
taken bits kilobits passed some same = grind (arith, same)

pub takes : (bits kilobits passed : ℕ) → 0 < bits → 0 < kilobits → nat_le ((bits - 1) / kilobits + 1) passed ≡ nat_le bits (kilobits * passed)
takes bits kilobits passed some moves = taken bits kilobits passed some (le-div_iff_mul-le moves)

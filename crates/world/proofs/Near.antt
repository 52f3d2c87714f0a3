-- The near place, where the places of both ends differ by whole cycles.
use Rattle.std.proofs.Common.{◌≡◌, ℕ, ◌+◌, ◌-◌, ◌*◌, ◌/◌, ◌^◌, ◌<◌, ◌≤◌, ⊎_elim, arith}
use Rattle.places.specs.Place.{number, reach, IsWithin, IsNear, IsFar, IsPastEnd}
use Rattle.world.specs.Close.{close_distance}

-- h is the receiver's highest place, s the shift, p the sender's place of a packet
module _ (h s cycles p : ℕ) (whole : s ≡ cycles * 65536) (close : IsWithin close_distance p (h + s)) where
  -- the near place is the sender's, less the shift
  pub near_own : (q : ℕ) → IsNear h (number p) q → q + s ≡ p
  near_own q near =
      let same = near.same_number in let above = near.not_above in let below = near.not_below in omega arith

  pub near_within : (q : ℕ) → IsNear h (number p) q → IsWithin reach p (h + s)
  near_within q near =
      let same = near.same_number in let above = near.not_above in let below = near.not_below in omega arith

  pub far_apart : 65536 ≤ h → IsFar h (number p) → IsWithin reach p (h + s) → ⊥
  far_apart started far within = far (p + 65536 - s) (record { same_number = omega arith; not_above = omega arith; not_below = omega arith })

  pub never_past : 65536 ≤ h → p < 2 ^ 48 → IsPastEnd h (number p) → ⊥
  never_past started small (raised, near, outside) =
      let same = near.same_number in let above = near.not_above in let below = near.not_below in
      ⊎_elim (λ x. omega arith) (λ x. omega arith) outside

-- the first shift is a number of whole cycles
pub first_shift : (p : ℕ) → 65536 ≤ p → p - (65536 + number p) ≡ (p / 65536 - 1) * 65536
first_shift p big = omega arith

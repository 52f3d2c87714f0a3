-- What one pair takes of the places that are left.
use Rattle.std.specs.Prelude.{◌≡◌, ◌↔◌, ℕ, IsTrue, ◌+◌, ◌<◌, ◌≤◌, ◌^◌, List, length, take, drop, All, Contains, slice_index}
use Rattle.places.specs.Place.{number}
use Rattle.fbwire.specs.declared.nack.Pair.{Pair}
use Rattle.fbwire.specs.Nack.{has_bit}

-- The pair starts at the first place, and names this and each of the others that lie at most 16 above it:
-- so many places, and no others.
pub record TakesFirst (places : List ℕ) (pair : Pair) (count : ℕ) : Type 0 where
  pub some : 0 < count
  pub within : count ≤ length places
  pub pid : pair.pid ≡ number (slice_index places 0)
  pub blp : pair.blp < 2 ^ 16
  pub low : All (λ place. slice_index places 0 ≤ place) (take count places)
  pub high : All (λ place. place ≤ slice_index places 0 + 16) (take count places)
  pub rest : All (λ place. slice_index places 0 + 16 < place) (drop count places)
  pub bits : (i : ℕ) → 0 < i → i ≤ 16 → IsTrue (has_bit pair.blp i) ↔ Contains (take count places) (slice_index places 0 + i)

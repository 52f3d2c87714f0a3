-- A count in 64 bits, which stays at the greatest number that they hold.
use Rattle.std.specs.Prelude.{◌≡◌, ℕ, ◌+◌, ◌-◌, ◌^◌, ◌<◌, ◌≤◌, min}

abbrev pub count_in_64 : ℕ → ℕ
count_in_64 n = min n (2 ^ 64 - 1)

-- so many more
abbrev pub more : (count many : ℕ) → ℕ
more count many = count_in_64 (count + many)

-- The same without that word, for a law to say: the count of so many is so many below 2^64, and the greatest number from there on.
pub record IsInFull (count total : ℕ) : Type 0 where
  pub below : total < 2 ^ 64 → count ≡ total
  pub above : 2 ^ 64 ≤ total → count ≡ 2 ^ 64 - 1

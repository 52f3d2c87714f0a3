-- Places that pass a test, as a list.
use Rattle.std.specs.Prelude.{◌≡◌, ℕ, ◌==◌, Bool, List}
use Rattle.std.specs.List.{list_any}
use Rattle.std.specs.List.Sorted.{IsStrictlyIncreasing}

-- The list has each place that passes the test, and no other, and rises. No other list does.
pub record Lists (places : List ℕ) (test : ℕ → Bool) : Type 0 where
  pub rises : IsStrictlyIncreasing places
  pub each : (q : ℕ) → list_any (λ p. p == q) places ≡ test q

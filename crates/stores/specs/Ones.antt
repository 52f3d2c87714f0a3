-- The positions that are left of one word of a set's bits.
use Rattle.std.specs.Prelude.{◌≡◌, ℕ, ◌+◌, ◌-◌, ◌<◌, ◌≤◌, Bool, true}
use Rattle.std.specs.Int.{bit_at}
use Rattle.stores.specs.declared.ones.Ones.{Ones}

-- the run has each position that passes the test, from its own up to below an end
abbrev pub HasEach : Ones → (ℕ → Bool) → ℕ → Type 0
HasEach run test end = (p : ℕ) → run.position ≤ p → p < end → test p ≡ true → bit_at run.bits (p - run.position) ≡ 1

-- and none from that end on
abbrev pub HasNoneFrom : Ones → ℕ → Type 0
HasNoneFrom run end = (k : ℕ) → bit_at run.bits k ≡ 1 → run.position + k < end

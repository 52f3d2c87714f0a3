-- A number in 64 bits.
use Rattle.std.specs.Prelude.{ℕ, ◌-◌, ◌^◌, min}

-- it stays at the greatest one
abbrev pub capped : ℕ → ℕ
capped n = min n (2 ^ 64 - 1)

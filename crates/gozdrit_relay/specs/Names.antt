-- How a name is asked for again.
use Rattle.std.specs.Prelude.{ℕ, ◌*◌, min}

-- Each pause is twice as long as the one before, and none longer than 32 seconds.
abbrev pub pause_after : (pause : ℕ) → ℕ
pause_after pause = min (2 * pause) 32

-- The greatest of what was seen lately.
use Rattle.std.specs.Prelude.{ℕ, ◌-◌, nat_lt, max, if◌then◌else◌}
use Rattle.timing.specs.declared.lately.Lately.{Lately}

-- nothing was seen
abbrev pub seen_none : Lately
seen_none = record { most = 0; before = 0; since = 0 }

-- What is remembered at a moment: a span of ten seconds and the one before it.
abbrev pub turned : Lately → (now : ℕ) → Lately
turned r now =
    if nat_lt (now - r.since) 10000 then r
    else record { most = 0; before = if nat_lt (now - r.since) 20000 then r.most else 0; since = now }

-- a number was seen
abbrev pub seen_at : Lately → (number now : ℕ) → Lately
seen_at r number now = record (turned r now) { most = max (turned r now).most number }

-- the greatest that is remembered
abbrev pub greatest_at : Lately → (now : ℕ) → ℕ
greatest_at r now = max (turned r now).most (turned r now).before

-- How far a search for a rollover counter has come, and how much it may cost. (The rule is this project's own: RFC 3711
-- leaves it to the session's signalling, section 3.3.1.)
use Rattle.std.specs.Prelude.{◌≡◌, ℕ, ◌+◌, ◌-◌, ◌^◌, ◌==◌, Bool, true, false, not, nat_le, min, if◌then◌else◌}
use Rattle.contexts.specs.declared.search.Search.{Search}

-- A span that is over is followed by one of a tenth of a second with 200 trials.
abbrev pub refilled : Search → (now : ℕ) → Search
refilled s now = if nat_le s.ends now then record s { left = 200; ends = min (now + 100) (2 ^ 64 - 1) } else s

-- One more may be tried where one is left, and is counted.
abbrev pub MayTry : Search → (now : ℕ) → (may : Bool) → Search → Type 0
MayTry s now may s' =
    let r : Search = refilled s now in
    (may ≡ not (r.left == 0)) × (s' ≡ record r { left = r.left - 1 })

-- Near ones and those further on come by turns.
abbrev pub ahead : Search → ℕ
ahead s = if s.is_far then s.far else s.near

-- the number behind one, of so many that come again and again
abbrev pub behind : (number count : ℕ) → ℕ
behind number count = if nat_le count (number + 1) then 0 else number + 1

-- 64 near ones and 65536 in all are gone through, each one after another, again and again.
abbrev pub tried : Search → Search
tried s =
    if s.is_far
    then record s { far = behind s.far 65536; is_far = false }
    else record s { near = behind s.near 64; is_far = true }

-- the next search begins anew
abbrev pub found : Search → Search
found s = record s { near = 0; far = 0 }

-- When a sequence number is believed (RFC 3550, appendix A.1).
use Rattle.std.specs.Prelude.{ℕ, ◌+◌, ◌-◌, ◌%◌, ◌==◌, ◌&&◌, not, min, Bool, false, nat_lt, nat_le, Option, Some, None, if◌then◌else◌}
use Rattle.endpoint.specs.declared.probation.Probation.{Probation}

-- how far a number lies ahead of that of the highest place, modulo 65536
abbrev pub ahead : (highest seq : ℕ) → ℕ
ahead highest seq = (seq + 65536 - highest % 65536) % 65536

-- it is `dropout` or more ahead, and `misorder` or more behind
abbrev pub has_jumped : Probation → (distance : ℕ) → Bool
has_jumped p distance = nat_le p.dropout distance && nat_le (distance + p.misorder) 65536

-- How many in sequence are wanted before the number is believed; 0: it is believed as it is. What is less than half a cycle
-- ahead is ahead.
abbrev pub wanted_for : Probation → (highest seq : ℕ) → ℕ
wanted_for p highest seq = if has_jumped p (ahead highest seq) then (if nat_lt (ahead highest seq) 32768 then p.ahead else p.behind) else 0

-- Packets that are held back make a run. It goes on with the next number in sequence alone; or, where a silence is said, with
-- any that has not jumped from the highest of the run, so that losses and reordering don't end it.
abbrev pub goes_on : (silence : Option ℕ) → Probation → (highest : Option ℕ) → (next seq : ℕ) → Bool
goes_on None p highest next seq = next == seq
goes_on (Some span) p None next seq = false
goes_on (Some span) p (Some highest) next seq = not (has_jumped p (ahead highest seq))

-- How many a run wants as it begins. By the stream it is `behind`, whichever way the number has jumped.
abbrev pub wanted_of_run : (silence : Option ℕ) → Probation → (wanted : ℕ) → ℕ
wanted_of_run None p wanted = wanted
wanted_of_run (Some span) p wanted = p.behind

-- The stream before is silent: nothing of it was taken for so long. Where no silence is said it never is.
abbrev pub is_silent : (silence : Option ℕ) → (last now : ℕ) → Bool
is_silent None last now = false
is_silent (Some span) last now = nat_le (last + span) now

-- how many a run wants at a moment: where the stream before is silent, no more than `ahead`
abbrev pub wanted_now : Probation → (wanted last now : ℕ) → ℕ
wanted_now p wanted last now = if is_silent p.silence last now then min p.ahead wanted else wanted

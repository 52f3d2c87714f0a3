-- How much of a stream is lost, and how much only late. (The rules are this project's own.)
use Rattle.std.specs.Prelude.{ℕ, Bool, ◌+◌, ◌-◌, ◌*◌, ◌/◌, ◌==◌, ◌&&◌, nat_le, nat_lt, Option, Some, None, if◌then◌else◌}
use Rattle.timing.specs.Capped.{capped}
use Rattle.timing.specs.declared.losses.Losses.{Losses}
use Rattle.timing.specs.declared.losses.Tally.{Tally}

abbrev pub tally_none : Tally
tally_none = record { taken = 0; late = 0; repaired = 0; measured = 0; needless = 0 }

abbrev pub none_lost : Losses
none_lost = record { recent = tally_none; before = tally_none; since = 0 }

-- two spans together
abbrev pub both : Tally → Tally → Tally
both a b =
    record {
      taken = capped (a.taken + b.taken);
      late = capped (a.late + b.late);
      repaired = capped (a.repaired + b.repaired);
      measured = capped (a.measured + b.measured);
      needless = capped (a.needless + b.needless);
    }

-- what is remembered at a moment: a span of five seconds and the one before it
abbrev pub turned_at : Losses → (now : ℕ) → Losses
turned_at l now =
    if nat_lt (now - l.since) 5000 then l
    else record { recent = tally_none; before = if nat_lt (now - l.since) 10000 then l.recent else tally_none; since = now }

-- one more where it is so
abbrev pub with_one : Bool → (count : ℕ) → ℕ
with_one is count = if is then capped (count + 1) else count

-- a media packet was taken
abbrev pub tally_taken : Tally → (is_late : Bool) → Tally
tally_taken t is_late = record t { taken = capped (t.taken + 1); late = with_one is_late t.late }

abbrev pub taken_at : Losses → (is_late : Bool) → (now : ℕ) → Losses
taken_at l is_late now = record (turned_at l now) { recent = tally_taken (turned_at l now).recent is_late }

-- a retransmission was taken
abbrev pub tally_repaired : Tally → (is_measured : Bool) → Tally
tally_repaired t is_measured = record t { taken = capped (t.taken + 1); repaired = capped (t.repaired + 1); measured = with_one is_measured t.measured }

abbrev pub repaired_at : Losses → (is_measured : Bool) → (now : ℕ) → Losses
repaired_at l is_measured now = record (turned_at l now) { recent = tally_repaired (turned_at l now).recent is_measured }

-- one that was measured was needless
abbrev pub needless_at : Losses → (now : ℕ) → Losses
needless_at l now = record (turned_at l now) { recent = record (turned_at l now).recent { needless = capped ((turned_at l now).recent.needless + 1) } }

-- of the retransmissions the share that was not needless
abbrev pub lost_of : Tally → ℕ
lost_of t = if t.measured == 0 then t.repaired else capped (t.repaired * (t.measured - t.needless)) / t.measured

-- four were lost at least, and more than one in eight
abbrev pub are_many : Tally → Bool
are_many t = nat_le 4 (lost_of t) && nat_lt t.taken (capped (lost_of t * 8))

-- how many asks are to fit where so many of those that were taken were lost
abbrev pub asks_where : (lost taken : ℕ) → ℕ
asks_where lost taken =
    if nat_le (capped (lost * 1000)) taken then 0
    else (if nat_le (capped (lost * 32)) taken then 1 else (if nat_le (capped (lost * 8)) taken then 2 else 3))

-- none is told where hardly any packet comes late
abbrev pub asks_for : Tally → Option ℕ
asks_for t = if nat_le (capped (t.late * 16)) t.taken then None else Some (asks_where (lost_of t) t.taken)

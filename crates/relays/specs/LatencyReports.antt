-- When the relay behind a network tells its latency: behind a NACK, once a second at most, where both have room.
use Rattle.std.specs.Prelude.{◌≡◌, ℕ, ◌+◌, ◌*◌, ◌-◌, ◌++◌, ◌&&◌, Bool, true, false, nat_le, List, drop, take, Option, Some, None}
use Rattle.relays.specs.LatencyReport.{report_octets}
use Rattle.relays.specs.declared.latency_report.LatencyReport.{LatencyReport}
use Rattle.relays.specs.declared.latency_reports.LatencyReports.{LatencyReports}

-- it was not told
abbrev pub reports_begun : LatencyReports
reports_begun = record { last = None }

abbrev pub is_apart : (last : Option ℕ) → (now : ℕ) → Bool
is_apart None now = true
is_apart (Some last) now = nat_le 1000 (now - last)

abbrev pub is_due : LatencyReports → (now : ℕ) → Bool
is_due r now = is_apart r.last now

-- behind a NACK of so many octets it is told, where both have room twice, so that it costs no NACK its copy
abbrev pub is_told_behind : Option LatencyReports → (nack room now : ℕ) → Bool
is_told_behind None nack room now = false
is_told_behind (Some r) nack room now = is_due r now && nat_le (2 * (nack + 16)) room

abbrev pub reports_after : (is_told : Bool) → (now : ℕ) → Option LatencyReports → Option LatencyReports
reports_after false now reports = reports
reports_after true now reports = Some (record { last = Some now })

-- what leaves, so many octets of it: the NACK, and the report behind it
abbrev pub IsWritten : (is_told : Bool) → LatencyReport → (nack len : ℕ) → (before after : List ℕ) → Type 0
IsWritten false report nack len before after = (len ≡ nack) × (after ≡ before)
IsWritten true report nack len before after = (len ≡ nack + 16) × (after ≡ take nack before ++ report_octets report ++ drop (nack + 16) before)

-- the same of what left: its front is the NACK, and its end the report
abbrev pub IsBehind : (is_told : Bool) → LatencyReport → (nack len : ℕ) → (octets out : List ℕ) → Type 0
IsBehind false report nack len octets out = len ≡ nack
IsBehind true report nack len octets out = (len ≡ nack + 16) × (octets ≡ take nack out ++ report_octets report)

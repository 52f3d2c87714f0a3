-- How the relay behind a network tells the one before it its latency: by a packet of RTCP that an application defines
-- (RFC 3550, section 6.7), behind a NACK. Others pass over such a packet.
use Rattle.std.specs.Prelude.{◌≡◌, ℕ, ◌^◌, ◌<◌, ◌-◌, List, ◌∷◌, ◌++◌, drop, length, Option, Some, None}
use Rattle.byteorder.specs.Endian.{big_bytes}
use Rattle.relays.specs.declared.latency_report.LatencyReport.{LatencyReport}

-- what a report can hold
pub record IsReport (report : LatencyReport) : Type 0 where
  pub ssrc : report.ssrc < 2 ^ 32
  pub latency : report.latency < 2 ^ 32

-- version 2 without padding, subtype 1; packet type 204; four words of 32 bits, less one; who tells it; the name,
-- "Gozd"; the milliseconds
abbrev pub report_octets : LatencyReport → List ℕ
report_octets report = 129 ∷ 204 ∷ 0 ∷ 3 ∷ big_bytes 4 report.ssrc ++ (71 ∷ 111 ∷ 122 ∷ 100 ∷ big_bytes 4 report.latency)

-- the last four words of a datagram
abbrev pub end_of : (octets : List ℕ) → List ℕ
end_of octets = drop (length octets - 16) octets

-- a datagram tells this latency at its end, or none
abbrev pub TellsLatency : (octets : List ℕ) → Option ℕ → Type 0
TellsLatency octets None = (report : LatencyReport) → IsReport report → end_of octets ≡ report_octets report → ⊥
TellsLatency octets (Some latency) = (report : LatencyReport) × IsReport report × (report.latency ≡ latency) × (end_of octets ≡ report_octets report)

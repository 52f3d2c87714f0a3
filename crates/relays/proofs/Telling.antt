-- The latency that is told at the end of a datagram is read there.
use Rattle.std.proofs.Common.{◌≡◌, ◌∙◌, ◌∷◌, ◌++◌, ◌+◌, ◌-◌, ℕ, List, [], length, drop, Option, Some, None, refl, sym, ap, arith}
use Rattle.std.proofs.lemmas.List.{length-append, append-nil}
use Rattle.byteorder.specs.Endian.{big_bytes, big_number}
use Rattle.rtpwire.proofs.Numbers.{number-again}
use Rattle.relays.specs.LatencyReport.{IsReport, TellsLatency, end_of, report_octets}
use Rattle.relays.specs.declared.latency_report.LatencyReport.{LatencyReport}

drop_front : (xs ys : List ℕ) → drop (length xs) (xs ++ ys) ≡ ys
drop_front [] ys = refl
drop_front (x ∷ xs) ys = drop_front xs ys

its_end : (before : List ℕ) (report : LatencyReport) → end_of (before ++ report_octets report) ≡ report_octets report
its_end before report =
    let long : length (before ++ report_octets report) ≡ length before + 16 = length-append before (report_octets report) in
    let less : length (before ++ report_octets report) - 16 ≡ length before = omega arith in
    ap (λ (n : ℕ). drop n (before ++ report_octets report)) less ∙ drop_front before (report_octets report)

latency_of : (report : LatencyReport) → IsReport report → big_number 4 (drop 12 (report_octets report)) ≡ report.latency
latency_of report is = ap (λ (l : List ℕ). big_number 4 l) (sym (append-nil (big_bytes 4 report.latency))) ∙ number-again 4 report.latency [] is.latency

pub told_is_read : (before : List ℕ) (report : LatencyReport) (answer : Option ℕ) → IsReport report → TellsLatency (before ++ report_octets report) answer → answer ≡ Some report.latency
told_is_read before report None is tells = absurd (tells report is (its_end before report))
told_is_read before report (Some latency) is (other, bounded, same, ends) =
    let octets : report_octets other ≡ report_octets report = sym ends ∙ its_end before report in
    let latencies : other.latency ≡ report.latency =
    sym (latency_of other bounded) ∙ ap (λ (l : List ℕ). big_number 4 (drop 12 l)) octets ∙ latency_of report is in
    ap (λ (n : ℕ). Some n) (sym same ∙ latencies)

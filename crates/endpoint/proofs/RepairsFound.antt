-- A place that was found for a retransmission is its one, and where none was there is none.
use Rattle.std.proofs.Common.{◌≡◌, ℕ, ◌^◌, ◌<◌, List, Option, Some, None, MatchOption, sym, subst}
use Rattle.places.specs.Place.{IsNear}
use Rattle.rtpwire.specs.Retransmission.{Repair, IsRepair}
use Rattle.rtpwire.specs.Rtp.{RtpPacket, RtpSpells}
use Rattle.rtpwire.specs.Session.{Streams}
use Rattle.endpoint.specs.Kinds.{IsRepairIn, IsRepairOf}

pub of_packet : (s : Streams) (h : ℕ) (octets : List ℕ) (packet : RtpPacket) → RtpSpells packet octets → ((p : RtpPacket) → RtpSpells p octets → packet ≡ p)
    → (o : Option ℕ) → MatchOption o ((q : ℕ) → IsRepairIn s h packet q → ⊥) (λ q. IsRepairIn s h packet q)
    → MatchOption o ((q : ℕ) → IsRepairOf s h octets q → ⊥) (λ q. IsRepairOf s h octets q)
of_packet s h octets packet spelled only None none = λ q it. none q (subst (λ (p : RtpPacket). IsRepairIn s h p q) (sym (only it.packet it.spelled)) it.original)
of_packet s h octets packet spelled only (Some q) is = record { packet = packet; spelled = spelled; original = is }

pub of_repair : (s : Streams) (h : ℕ) (packet : RtpPacket) → packet.payload_type ≡ s.repair_type → (repair : Repair) → IsRepair repair packet → ((r : Repair) → IsRepair r packet → repair ≡ r)
    → (o : Option ℕ) → MatchOption o ((q : ℕ) → q < 2 ^ 48 → IsNear h repair.original q → ⊥) (λ q. (q < 2 ^ 48) × IsNear h repair.original q)
    → MatchOption o ((q : ℕ) → IsRepairIn s h packet q → ⊥) (λ q. IsRepairIn s h packet q)
of_repair s h packet typed repair is only None none = λ q it. none q it.place (subst (λ (r : Repair). IsNear h r.original q) (sym (only it.repair it.is)) it.near)
of_repair s h packet typed repair is only (Some q) found = record { typed = typed; repair = repair; is = is; near = found.1; place = found.0 }

use Rattle.std.proofs.Common.{◌≡◌, suc, length, ap, subst, arith}
use Rattle.rtpwire.specs.Rtp.{RtpPacket, RtpSpells}
use Rattle.rtpwire.specs.Retransmission.{Repair}
use Rattle.rtpwire.proofs.Repairs.{one_repair, one_spelled, same_content, repair-read, number_in}
use Rattle.rtpwire.proofs.laws.repair_is_determined.Goals as goal

pub returns-clause-one : goal.returns-clause-one
returns-clause-one c = λ x y o p m n t u r s octets a b.
    let same = one_spelled x y o p m n t u r s octets a b in (
      same_content x y o p m n t u r s same,
      ap (λ (z : Repair). z.original) same,
      ap (λ (z : Repair). z.packet.sequence) same,
      ap (λ (z : Repair). z.packet.payload_type) same,
      ap (λ (z : Repair). z.packet.ssrc) same,
    )

pub returns-clause-one_packet : goal.returns-clause-one_packet
returns-clause-one_packet c = one_repair

pub returns-clause-read : goal.returns-clause-read
returns-clause-read c = λ content original sequence payload_type ssrc octets packet spells. (
  λ repair. repair-read content original sequence payload_type ssrc octets packet repair spells,
  λ is. record { number = is.original; spelled = subst (λ (p : RtpPacket). RtpSpells p octets) is.sent spells },
)

pub returns-clause-long : goal.returns-clause-long
returns-clause-long c = λ repair packet is. let size : length packet.payload ≡ suc (suc (length repair.packet.payload)) = ap (λ (p : RtpPacket). length p.payload) is.sent in omega (arith, size)

pub returns-clause-number : goal.returns-clause-number
returns-clause-number c = number_in

pub returns-clause-rest : goal.returns-clause-rest
returns-clause-rest c = λ repair packet is. let size : length packet.payload ≡ suc (suc (length repair.packet.payload)) = ap (λ (p : RtpPacket). length p.payload) is.sent in omega (arith, size)

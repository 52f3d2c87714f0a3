use Rattle.std.proofs.Common.{length, ap, arith}
use Rattle.rtpwire.specs.Retransmission.{repair_of, repair_packet}
use Rattle.rtpwire.proofs.Lengths.{length-written}
use Rattle.rtpwire.proofs.retransmission.repair_len.Goals as goal

pub returns-clause-len : goal.returns-clause-len
returns-clause-len c = λ original sequence payload_type ssrc.
    let total = length-written (repair_packet (repair_of c.args.content.now original sequence payload_type ssrc)) (omega arith) in
    let header = c.header_len.ensures.len 0 sequence payload_type ssrc in
    let payload = ap length c.payload.ensures in
    omega (arith, total, header, payload)

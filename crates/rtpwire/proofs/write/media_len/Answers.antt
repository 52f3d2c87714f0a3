use Rattle.std.proofs.Common.{length, ap, arith}
use Rattle.rtpwire.specs.Content.{packet_of}
use Rattle.rtpwire.proofs.Lengths.{length-written}
use Rattle.rtpwire.proofs.write.media_len.Goals as goal

pub returns-clause-len : goal.returns-clause-len
returns-clause-len c = λ sequence payload_type ssrc.
    let small = c.ranges.padding in
    let total = length-written (packet_of c.args.content.now c.args.padding sequence payload_type ssrc) (omega arith) in
    let header = c.header_len.ensures.len c.args.padding sequence payload_type ssrc in
    let payload = ap length c.payload.ensures in
    omega (arith, total, header, payload, c.from.ensures)

use Rattle.std.proofs.Common.{length, ap, arith}
use Rattle.rtpwire.specs.Content.{packet_of}
use Rattle.rtpwire.proofs.Lengths.{length-written}
use Rattle.rtpwire.proofs.write.write_longer_into.Goals as goal

pub split_at_mut-front-requires : goal.split_at_mut-front-requires
split_at_mut-front-requires c =
    let small = c.ranges.padding in
    let total = length-written (packet_of c.args.content.now c.args.padding c.args.sequence c.args.payload_type c.args.ssrc) (omega arith) in
    let header = c.header_len.ensures.len c.args.padding c.args.sequence c.args.payload_type c.args.ssrc in
    omega (arith, total, header, c.requires.room)

pub returns-clause-fits : goal.returns-clause-fits
returns-clause-fits c =
    let small = c.ranges.padding in
    let header = c.header_len.ensures.len c.args.padding c.args.sequence c.args.payload_type c.args.ssrc in
    let front = ap length c.fill_header.ensures in
    let payload = ap length c.payload.ensures in
    omega (arith, header, front, payload, c.header_len.ensures.fits, c.fill_packet.ensures.len, c.is_bounded.ensures.octet_count)

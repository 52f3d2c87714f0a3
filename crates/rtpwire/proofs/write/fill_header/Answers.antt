use Rattle.std.proofs.Common.{length, ap, arith}
use Rattle.rtpwire.specs.Content.{packet_of}
use Rattle.rtpwire.proofs.Lengths.{length-header}
use Rattle.rtpwire.proofs.write.fill_header.Goals as goal

pub split_at_mut-sources-requires : goal.split_at_mut-sources-requires
split_at_mut-sources-requires c =
    let total = length-header (packet_of c.args.content.now c.args.padding c.args.sequence c.args.payload_type c.args.ssrc) in
    let count = ap length c.sources.ensures in
    omega (arith, total, count, c.requires.len, c.len.ensures, c.split_at_mut-front.ensures.back_len)

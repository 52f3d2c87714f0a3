use Rattle.std.proofs.Common.{length, ap, arith}
use Rattle.rtpwire.specs.Content.{packet_of}
use Rattle.rtpwire.proofs.Lengths.{length-header, length-some, length-none}
use Rattle.rtpwire.proofs.write.header_len.Goals.{in-Some, in-None}
use Rattle.rtpwire.proofs.write.header_len.Goals as goal

pub returns-clause-len : goal.returns-clause-len
returns-clause-len c = λ padding sequence payload_type ssrc.
    let total = length-header (packet_of c.args.content.now padding sequence payload_type ssrc) in
    let count = c.len-2.ensures in
    let sources = ap length c.sources.ensures in
    elim c.match-extension.branch [
      | in-Some w ↦
          let h = length-some c.extension.result c.args.content.now.extension _ w.in-Some.is c.extension.ensures in
          omega (arith, total, count, sources, h, w.len.ensures, w.extension-is)
      | in-None w ↦
          let h = length-none c.extension.result c.args.content.now.extension w.in-None.is c.extension.ensures in
          omega (arith, total, count, sources, h, w.extension-is)
    ]

use Rattle.std.proofs.Common.{◌≡◌, List, ℕ, ◌++◌, ◌∙◌, ap, arith}
use Rattle.rtpwire.specs.Content.{packet_of}
use Rattle.rtpwire.specs.Rtp.{header, unpadded}
use Rattle.rtpwire.proofs.Carries.{carries}
use Rattle.rtpwire.proofs.Written.{front-written, front-spelled}
use Rattle.rtpwire.proofs.write.write_media_into.Goals as goal

pub returns-in-Some-clause-spells : goal.returns-in-Some-clause-spells
returns-in-Some-clause-spells c =
    let packet = packet_of c.args.content.now c.args.padding c.args.sequence c.args.payload_type c.args.ssrc in
    let is = carries c.args.content.now c.args.padding c.args.sequence c.args.payload_type c.args.ssrc c.is_bounded.ensures (omega arith) c.requires.padding (omega arith) c.requires.payload_type (omega arith) in
    let same : c.in-Some.header ++ c.payload.result.now ≡ unpadded packet =
    ap (λ (x : List ℕ). x ++ c.payload.result.now) c.in-Some.ensures.some ∙ ap (λ (x : List ℕ). header packet ++ x) c.payload.ensures in
    front-spelled packet c.in-Some.header c.payload.result.now c.args.out.now c.fill_packet.new.out c.fill_packet.result is same c.fill_packet.ensures.written c.fill_packet.ensures.len

pub returns-clause-spells : goal.returns-clause-spells
returns-clause-spells c =
    let packet = packet_of c.args.content.now c.args.padding c.args.sequence c.args.payload_type c.args.ssrc in
    let is = carries c.args.content.now c.args.padding c.args.sequence c.args.payload_type c.args.ssrc c.is_bounded.ensures (omega arith) c.requires.padding (omega arith) c.requires.payload_type (omega arith) in
    front-written packet c.args.out.now c.write_longer_into.new.out c.write_longer_into.result is c.write_longer_into.ensures.written c.write_longer_into.ensures.len

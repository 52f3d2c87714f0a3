use Rattle.std.proofs.Common.{rules, ◌≡◌, length, refl, ap, ◌∙◌, arith}
use Rattle.places.specs.Place.{number}
use Rattle.rtpwire.specs.declared.content.Content.{Content}
use Rattle.rtpwire.specs.Retransmission.{repair_of, repair_packet}
use Rattle.rtpwire.specs.Rtp.{RtpPacket, written}
use Rattle.sender.proofs.Front.{front_written}
use Rattle.sender.proofs.sender.Sender.next_repair_into.Goals as goal

pub returns-then-out-needed-clause-repairs : goal.returns-then-out-needed-clause-repairs
returns-then-out-needed-clause-repairs g c =
    let before = c.args.self.now in
    let s = before.config.session in
    let place = c.in-Some.place in
    let less = c.if-out-needed.true in
    let needed = c.repair_len-needed.ensures.len (number place) before.repair s.repair_type s.repair_ssrc in
    let same : c.of_content-content.result ≡ c.in-Some.entry.now.content = search rules in (
      record {
        place = place;
        entry = c.in-Some.entry.now;
        is_next = c.in-Some.ensures;
        octets = needed ∙ ap (λ (content : Content). length (written (repair_packet (repair_of content (number place) before.repair s.repair_type s.repair_ssrc)))) same;
      },
      less,
      refl,
      refl,
    )

pub write_repair_into-len-requires-clause-room : goal.write_repair_into-len-requires-clause-room
write_repair_into-len-requires-clause-room g c =
    let needed = c.repair_len-needed.ensures.len c.number-original.result c.self.inside.repair c.repair_type.result c.repair_ssrc-ssrc.result in
    let not = c.if-out-needed.false in
    omega (arith, needed, not)

pub returns-clause-repairs : goal.returns-clause-repairs
returns-clause-repairs g c =
    let writes = c.write_repair_into-len in
    let packet : RtpPacket = repair_packet (repair_of c.of_content-content.result c.number-original.result c.self.inside.repair c.repair_type.result c.repair_ssrc-ssrc.result) in
    let front = front_written (written packet) c.args.out.now writes.new.out writes.result writes.ensures.written writes.ensures.len in (
      record {
        entry = c.in-Some.entry.now;
        repairs = search rules;
        spells = search rules;
      },
      front.1,
    )

use Rattle.std.proofs.Common.{rules, ◌≡◌, take, subst, ap, ◌∙◌, arith}
use Rattle.places.specs.Place.{number}
use Rattle.rtpwire.specs.Content.{packet_of}
use Rattle.rtpwire.specs.Rtp.{RtpPacket, RtpSpells, written}
use Rattle.sender.specs.Sending.{media_packet}
use Rattle.sender.proofs.Front.{front_written}
use Rattle.sender.proofs.sender.Sender.send_into.Goals as goal

pub write_media_into-len-requires-clause-room : goal.write_media_into-len-requires-clause-room
write_media_into-len-requires-clause-room g c =
    let needed = c.media_len-needed.ensures.len c.number.result c.media_type.result c.media_ssrc.result in
    let not = c.if-out-needed.false in
    omega (arith, needed, not)

pub returns-clause-sends : goal.returns-clause-sends
returns-clause-sends g c =
    let before = c.args.self.now in
    let s = before.config.session in
    let content = c.args.carried.now in
    let padding = c.args.padding in
    let place = c.in-Ok.place in
    let checked = c.in-Ok.ensures in
    let writes = c.write_media_into-len in
    let needed = c.media_len-needed.ensures.len (number before.next) s.media_type s.media_ssrc in
    let not = c.if-out-needed.false in
    let packet : RtpPacket = packet_of content padding c.number.result c.media_type.result c.media_ssrc.result in
    let same : packet ≡ media_packet s content padding place = search rules in
    let front = front_written (written packet) c.args.out.now writes.new.out writes.result writes.ensures.written writes.ensures.len in (
      omega (arith, needed, not),
      record {
        place_is = checked.0;
        fits = checked.1;
        padded = checked.2;
        holds = c.content_is_determined.ensures.held content padding (number place) s.media_type s.media_ssrc c.is_bounded.ensures;
        spells = subst (λ (p : RtpPacket). RtpSpells p (take writes.result writes.new.out)) same writes.ensures.spells;
        written_so = front.0 ∙ ap written same;
        sends = c.keep.ensures.sends;
      },
      front.1,
    )

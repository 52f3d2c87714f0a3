use Rattle.std.proofs.Common.{◌≡◌, List, ℕ, ◌<◌, length, subst, sym, rules}
use Rattle.rtpwire.specs.declared.content.Content.{Content}
use Rattle.rtpwire.specs.Rtp.{RtpSpells, written}
use Rattle.rtpwire.specs.Content.{packet_of}
use Rattle.rtpwire.proofs.Written.{written-spelled}
use Rattle.rtpwire.proofs.write.write_media_to.Goals as goal

pub returns-clause-spells : goal.returns-clause-spells
returns-clause-spells c =
    let packet = packet_of c.of_content-content.result c.args.padding c.args.sequence c.args.payload_type c.args.ssrc in
    let is_written : c.push_padding.new.out.items ≡ written packet = search rules in
    let padded : 0 < c.args.padding → 0 < length c.of_content-content.result.payload.items =
    λ some. subst (λ (content : Content). 0 < length content.payload.items) (sym c.of_content-content.ensures) (c.requires.padding some) in
    let spelled = written-spelled packet (c.push_header.ensures.packet padded) in
    subst (λ (content : Content). RtpSpells (packet_of content c.args.padding c.args.sequence c.args.payload_type c.args.ssrc) c.push_padding.new.out.items)
    c.of_content-content.ensures (subst (λ (octets : List ℕ). RtpSpells packet octets) (sym is_written) spelled)

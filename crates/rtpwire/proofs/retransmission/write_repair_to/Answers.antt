use Rattle.std.proofs.Common.{◌≡◌, ℕ, List, ◌++◌, subst, sym, ap, ◌∙◌, append_assoc, append-nil}
use Rattle.byteorder.specs.Endian.{big_bytes}
use Rattle.rtpwire.specs.declared.content.Content.{Content}
use Rattle.rtpwire.specs.Rtp.{RtpSpells, header, unpadded, written}
use Rattle.rtpwire.specs.Retransmission.{RepairSpells, repair_of, repair_packet}
use Rattle.rtpwire.proofs.Written.{written-spelled, repair-packet}
use Rattle.rtpwire.proofs.retransmission.write_repair_to.Goals as goal

pub returns-clause-spells : goal.returns-clause-spells
returns-clause-spells c =
    let content = c.of_content-content.result in
    let repair = repair_of content c.args.original c.args.sequence c.args.payload_type c.args.ssrc in
    let is_written : c.push_octets.new.out.items ≡ written (repair_packet repair) =
    c.push_octets.ensures
    ∙ ap (λ (x : List ℕ). x ++ c.payload.result.now) c.push_repair_header.ensures.items
    ∙ ap (λ (x : List ℕ). (header repair.packet ++ big_bytes 2 c.args.original) ++ x) c.payload.ensures
    ∙ append_assoc (header repair.packet) (big_bytes 2 c.args.original) content.payload.items
    ∙ sym (append-nil (unpadded (repair_packet repair))) in
    let spelled = written-spelled (repair_packet repair) (repair-packet repair c.push_repair_header.ensures.packet) in
    subst (λ (content : Content). RepairSpells content c.args.original c.args.sequence c.args.payload_type c.args.ssrc c.push_octets.new.out.items)
    c.of_content-content.ensures
    (record {
      number = c.push_repair_header.ensures.number;
      spelled = subst (λ (octets : List ℕ). RtpSpells (repair_packet repair) octets) (sym is_written) spelled;
    })

use Rattle.std.proofs.Common.{◌≡◌, ℕ, List, ◌++◌, ap, ◌∙◌, arith, append_assoc}
use Rattle.byteorder.specs.Endian.{big_bytes}
use Rattle.rtpwire.specs.Buffer.{in_front}
use Rattle.rtpwire.specs.Retransmission.{Repair, repair_of, repair_packet}
use Rattle.rtpwire.specs.Rtp.{header, unpadded, written_padding}
use Rattle.rtpwire.proofs.Carries.{carries}
use Rattle.rtpwire.proofs.Written.{front-written, front-spelled, repair-packet}
use Rattle.rtpwire.proofs.retransmission.write_repair_into.Goals as goal

-- a retransmission without padding is what stands before its original payload, and that
in_parts : (repair : Repair) (front payload : List ℕ) → front ≡ header repair.packet ++ big_bytes 2 repair.original → payload ≡ repair.packet.payload → front ++ payload ≡ unpadded (repair_packet repair)
in_parts repair front payload is same =
    ap (λ (x : List ℕ). x ++ payload) is
    ∙ ap (λ (x : List ℕ). (header repair.packet ++ big_bytes 2 repair.original) ++ x) same
    ∙ append_assoc (header repair.packet) (big_bytes 2 repair.original) repair.packet.payload

pub returns-in-Some-clause-written : goal.returns-in-Some-clause-written
returns-in-Some-clause-written c =
    let repair = repair_of c.args.content.now c.args.original c.args.sequence c.args.payload_type c.args.ssrc in
    c.fill_packet.ensures.written
    ∙ ap (λ (x : List ℕ). in_front (x ++ written_padding 0) c.args.out.now) (in_parts repair c.in-Some.header c.payload.result.now c.in-Some.ensures.some c.payload.ensures)

pub returns-in-Some-clause-spells : goal.returns-in-Some-clause-spells
returns-in-Some-clause-spells c =
    let repair = repair_of c.args.content.now c.args.original c.args.sequence c.args.payload_type c.args.ssrc in
    let is = carries c.args.content.now 0 c.args.sequence c.args.payload_type c.args.ssrc c.is_bounded.ensures (omega arith) (λ some. absurd (omega arith)) (omega arith) c.requires.payload_type (omega arith) in
    record {
      number = omega arith;
      spelled = front-spelled (repair_packet repair) c.in-Some.header c.payload.result.now c.args.out.now c.fill_packet.new.out c.fill_packet.result
          (repair-packet repair is) (in_parts repair c.in-Some.header c.payload.result.now c.in-Some.ensures.some c.payload.ensures) c.fill_packet.ensures.written c.fill_packet.ensures.len;
    }

pub returns-clause-spells : goal.returns-clause-spells
returns-clause-spells c =
    let repair = repair_of c.args.content.now c.args.original c.args.sequence c.args.payload_type c.args.ssrc in
    let is = carries c.args.content.now 0 c.args.sequence c.args.payload_type c.args.ssrc c.is_bounded.ensures (omega arith) (λ some. absurd (omega arith)) (omega arith) c.requires.payload_type (omega arith) in
    record {
      number = omega arith;
      spelled = front-written (repair_packet repair) c.args.out.now c.write_longer_into.new.out c.write_longer_into.result
          (repair-packet repair is) c.write_longer_into.ensures.written c.write_longer_into.ensures.len;
    }

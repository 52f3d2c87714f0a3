-- A packet that is a retransmission, both ways, and the content that it carries.
use Rattle.std.proofs.Common.{◌≡◌, ℕ, ◌^◌, ◌<◌, ◌≤◌, List, ◌++◌, length, drop, Option, Some, None, refl, sym, ◌∙◌, ap}
use Rattle.std.proofs.lemmas.List.{take-append-drop}
use Rattle.std.specs.Option.{option_map}
use Rattle.byteorder.specs.Endian.{big_bytes, big_number}
use Rattle.rtpwire.specs.declared.content.Content.{Content}
use Rattle.rtpwire.specs.declared.content.Extension.{Extension}
use Rattle.rtpwire.specs.Rtp.{RtpPacket, RtpSpells}
use Rattle.rtpwire.specs.Content.{packet_of, extension_of}
use Rattle.rtpwire.specs.Retransmission.{Repair, IsRepair, RepairSpells, repair_packet, repair_of, repair_with}
use Rattle.rtpwire.proofs.Numbers.{EachOctet, number-again, bytes-again_2}
use Rattle.rtpwire.proofs.Spelled.{spelled}

-- a payload of two octets or more begins with a number
pub number_and_rest : (payload : List ℕ) → EachOctet payload → 2 ≤ length payload → payload ≡ big_bytes 2 (big_number 2 payload) ++ drop 2 payload
number_and_rest payload all long =
    sym (ap (λ (x : List ℕ). x ++ drop 2 payload) (bytes-again_2 payload long all) ∙ take-append-drop 2 payload)

-- the retransmission that a packet is
repair_in : RtpPacket → Repair
repair_in p = repair_with p (big_number 2 p.payload) (drop 2 p.payload)

repair_in-repair_packet : (r : Repair) → r.original < 2 ^ 16 → repair_in (repair_packet r) ≡ r
unfolding repair_in
repair_in-repair_packet r fits =
    ap (λ (n : ℕ). record r { original = n }) (number-again 2 r.original r.packet.payload fits)

-- a packet is one retransmission at most
pub one_repair : (r s : Repair) (p : RtpPacket) → IsRepair r p → IsRepair s p → r ≡ s
one_repair r s p a b =
    sym (repair_in-repair_packet r a.original) ∙ ap repair_in (sym a.sent ∙ b.sent) ∙ repair_in-repair_packet s b.original

-- its number is the one that the payload begins with
pub number_in : (r : Repair) (p : RtpPacket) → IsRepair r p → big_number 2 p.payload ≡ r.original
number_in r p is = ap (λ (x : RtpPacket). big_number 2 x.payload) is.sent ∙ number-again 2 r.original r.packet.payload is.original

-- the content that a packet carries
content_in : RtpPacket → Content
content_in p =
    record {
      payload = record { items = p.payload };
      timestamp = p.timestamp;
      marker = p.marker;
      sources = record { items = p.sources };
      extension = option_map {U = Extension} (λ e. record { profile = e.0; words = record { items = e.1 } }) p.extension;
    }

extension-again : (e : Option Extension)
    → option_map {U = Extension} (λ (x : ℕ × List ℕ). record { profile = x.0; words = record { items = x.1 } }) (option_map extension_of e) ≡ e
extension-again None = refl
extension-again (Some e) = refl

content_in-packet_of : (content : Content) (padding sequence payload_type ssrc : ℕ) → content_in (packet_of content padding sequence payload_type ssrc) ≡ content
unfolding content_in
content_in-packet_of content padding sequence payload_type ssrc = ap (λ (e : Option Extension). record content { extension = e }) (extension-again content.extension)

-- a packet carries one content at most
pub one_content : (c d : Content) (m n s t u v x y : ℕ) → packet_of c m s u x ≡ packet_of d n t v y → c ≡ d
one_content c d m n s t u v x y same = sym (content_in-packet_of c m s u x) ∙ ap content_in same ∙ content_in-packet_of d n t v y

-- whichever packet a reader finds in the octets is the retransmission
pub repair-read : (content : Content) (original sequence payload_type ssrc : ℕ) (octets : List ℕ) (packet : RtpPacket)
    → RepairSpells content original sequence payload_type ssrc octets → RtpSpells packet octets → IsRepair (repair_of content original sequence payload_type ssrc) packet
repair-read content original sequence payload_type ssrc octets packet a b =
    record { original = a.number; sent = sym (spelled packet octets b).seen ∙ (spelled _ octets a.spelled).seen }

-- octets spell one retransmission at most
pub one_spelled : (c d : Content) (o p m n t u r s : ℕ) (octets : List ℕ) → RepairSpells c o m t r octets → RepairSpells d p n u s octets → repair_of c o m t r ≡ repair_of d p n u s
one_spelled c d o p m n t u r s octets a b =
    one_repair (repair_of c o m t r) (repair_of d p n u s) (repair_packet (repair_of d p n u s)) (repair-read c o m t r octets _ a b.spelled) (record { original = b.number; sent = refl })

-- and so one content
pub same_content : (c d : Content) (o p m n t u r s : ℕ) → repair_of c o m t r ≡ repair_of d p n u s → c ≡ d
same_content c d o p m n t u r s same = one_content c d 0 0 m n t u r s (ap (λ (x : Repair). x.packet) same)

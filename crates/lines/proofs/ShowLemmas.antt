-- A datagram has one line at most.
use Rattle.std.proofs.Common.{◌≡◌, ℕ, ◌≤◌, List, [], ◌∷◌, ◌++◌, length, drop, get_or, refl, ap, sym, ◌∙◌, subst, append_assoc, arith, Some}
use Rattle.std.proofs.lemmas.Option.{same_Some}
use Rattle.rtpwire.specs.declared.fault.RtpFault.{RtpFault}
use Rattle.rtpwire.specs.Fault.{rtp_number}
use Rattle.rtpwire.specs.Rtp.{RtpPacket, RtpSpells}
use Rattle.rtpwire.specs.RtpChecks.{rtp_fault}
use Rattle.rtpwire.specs.Retransmission.{Repair, IsRepair, repair_packet}
use Rattle.fbwire.specs.declared.fault.FeedbackFault.{FeedbackFault}
use Rattle.fbwire.specs.Fault.{feedback_number}
use Rattle.fbwire.specs.Nack.{Nack}
use Rattle.fbwire.specs.Compound.{CompoundSpells}
use Rattle.fbwire.specs.CompoundChecks.{IsRefused}
use Rattle.lines.specs.Line.{refused_line}
use Rattle.lines.specs.ShowText.{Shows, ShowsAll, ShowsPacket, feedback, no_feedback, media, no_media, packet, repair, no_repair, nacks_line, rtx_line}

-- a packet is one retransmission at most
one_repair : (r s : Repair) (p : RtpPacket) → IsRepair r p → IsRepair s p → r ≡ s
one_repair r s p is also =
    let same : repair_packet r ≡ repair_packet s = sym is.sent ∙ also.sent in
    let payloads = ap (λ (q : RtpPacket). q.payload) same in
    let high = ap (λ (l : List ℕ). get_or l 0 0) payloads in
    let low = ap (λ (l : List ℕ). get_or l 1 0) payloads in
    let small = is.original in
    let small_too = also.original in
    let original : r.original ≡ s.original = omega arith in
    let payload : r.packet.payload ≡ s.packet.payload = ap (λ (l : List ℕ). drop 2 l) payloads in
    let packets : r.packet ≡ s.packet =
    ap (λ (q : RtpPacket). record q { payload = r.packet.payload }) same ∙ ap (λ (l : List ℕ). record s.packet { payload = l }) payload in
    let first : r ≡ record r { original = s.original } = ap (λ (o : ℕ). record r { original = o }) original in
    first ∙ ap (λ (q : RtpPacket). record { original = s.original; packet = q }) packets

-- a packet with room for an original's number is refused for none
one_packet_line : ((r : Repair) (p : RtpPacket) → IsRepair r p → 2 ≤ length p.payload) → (p : RtpPacket) (a b : List ℕ) → ShowsPacket p a → ShowsPacket p b → a ≡ b
one_packet_line long p a b (packet n) (packet m) = refl
one_packet_line long p a b (packet n) (repair s f also) = absurd (n f)
one_packet_line long p a b (packet n) (no_repair f short) = absurd (n f)
one_packet_line long p a b (repair r e is) (packet m) = absurd (m e)
one_packet_line long p a b (repair r e is) (repair s f also) = ap rtx_line (one_repair r s p is also)
one_packet_line long p a b (repair r e is) (no_repair f short) = let room = long r p is in absurd (omega arith)
one_packet_line long p a b (no_repair e short) (packet m) = absurd (m e)
one_packet_line long p a b (no_repair e short) (repair s f also) = let room = long s p also in absurd (omega arith)
one_packet_line long p a b (no_repair e short) (no_repair f also) = refl

module _ (one_list : (octets : List ℕ) (a b : List Nack) → CompoundSpells a octets → CompoundSpells b octets → a ≡ b)
    (one_fault : (octets : List ℕ) (a b : FeedbackFault) → IsRefused octets a → IsRefused octets b → a ≡ b)
    (not_both : (octets : List ℕ) (nacks : List Nack) (a : FeedbackFault) → CompoundSpells nacks octets → IsRefused octets a → ⊥)
    (one : (p q : RtpPacket) (octets : List ℕ) → RtpSpells p octets → RtpSpells q octets → p ≡ q)
    (refused : (p : RtpPacket) (octets : List ℕ) (fault : RtpFault) → rtp_fault octets ≡ Some fault → RtpSpells p octets → ⊥)
    (long : (r : Repair) (p : RtpPacket) → IsRepair r p → 2 ≤ length p.payload) where
  pub one_line : (octets a b : List ℕ) → Shows octets a → Shows octets b → a ≡ b
  one_line octets a b (feedback nacks is s) (feedback others also t) = ap nacks_line (one_list octets nacks others s t)
  one_line octets a b (feedback nacks is s) (no_feedback fault also t) = absurd (not_both octets nacks fault s t)
  one_line octets a b (feedback nacks is s) (media q line rtp t shows) = absurd (rtp is)
  one_line octets a b (feedback nacks is s) (no_media fault rtp t) = absurd (rtp is)
  one_line octets a b (no_feedback fault is s) (feedback others also t) = absurd (not_both octets others fault t s)
  one_line octets a b (no_feedback fault is s) (no_feedback other also t) = ap (λ f. refused_line (feedback_number f)) (one_fault octets fault other s t)
  one_line octets a b (no_feedback fault is s) (media q line rtp t shows) = absurd (rtp is)
  one_line octets a b (no_feedback fault is s) (no_media other rtp t) = absurd (rtp is)
  one_line octets a b (media p line rtp s shows) (feedback others is t) = absurd (rtp is)
  one_line octets a b (media p line rtp s shows) (no_feedback other is t) = absurd (rtp is)
  one_line octets a b (media p line rtp s shows) (media q next rtp_too t also) =
      one_packet_line long p a b shows (subst (λ x. ShowsPacket x b) (sym (one p q octets s t)) also)
  one_line octets a b (media p line rtp s shows) (no_media other rtp_too t) = absurd (refused p octets other t s)
  one_line octets a b (no_media fault rtp s) (feedback others is t) = absurd (rtp is)
  one_line octets a b (no_media fault rtp s) (no_feedback other is t) = absurd (rtp is)
  one_line octets a b (no_media fault rtp s) (media q line rtp_too t also) = absurd (refused q octets fault s t)
  one_line octets a b (no_media fault rtp s) (no_media other rtp_too t) = ap (λ f. refused_line (rtp_number f)) (same_Some fault other (sym s ∙ t))

  pub one_text : (datagrams : List (List ℕ)) (a b : List ℕ) → ShowsAll datagrams a → ShowsAll datagrams b → a ≡ b
  one_text [] a b e f = e ∙ sym f
  one_text (octets ∷ others) a b (line, more, shows, rest, e) (next, after, also, others_too, f) =
      e ∙ ap (λ (x : List ℕ). x ++ more) (one_line octets line next shows also)
      ∙ ap (λ (x : List ℕ). next ++ x) (one_text others more after rest others_too) ∙ sym f

pub both_texts : (datagrams others : List (List ℕ)) (a b : List ℕ) → ShowsAll datagrams a → ShowsAll others b → ShowsAll (datagrams ++ others) (a ++ b)
both_texts [] others a b e shown = subst (λ (x : List ℕ). ShowsAll others (x ++ b)) (sym e) shown
both_texts (octets ∷ datagrams) others a b (line, more, shows, rest, e) shown =
    (line, more ++ b, shows, both_texts datagrams others more b rest shown, ap (λ (x : List ℕ). x ++ b) e ∙ append_assoc line more b)

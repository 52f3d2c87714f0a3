-- A packet of the retransmissions' stream that is all padding has no number of an original.
use Rattle.std.proofs.Common.{◌≡◌, ℕ, ◌≤◌, ◌==◌, ◌&&◌, Bool, true, false, nat_lt, List, [], length, Option, Some, None, Result, Ok, Err, sym, ap, subst, ◌∙◌, arith, inl, inr, if◌then◌else◌}
use Rattle.std.proofs.lemmas.Bool.{cases_Bool}
use Rattle.rtpwire.specs.declared.fault.RtpFault.{RtpFault}
use Rattle.rtpwire.specs.declared.fault.RtpFault.TheVariants as rtp
use Rattle.rtpwire.specs.Retransmission.{Repair, IsRepair}
use Rattle.rtpwire.specs.Rtp.{RtpPacket, RtpSpells}
use Rattle.rtpwire.specs.RtpChecks.{rtp_fault}
use Rattle.rtpwire.specs.Session.{Streams}
use Rattle.receiver.specs.declared.answer.Taken.{Taken}
use Rattle.receiver.specs.declared.fault.ReceiveFault.{ReceiveFault}
use Rattle.receiver.specs.declared.fault.ReceiveFault.TheVariants as refused
use Rattle.receiver.specs.declared.stream.Stream.{Stream}
use Rattle.receiver.specs.declared.stream.Stream.TheVariants as streams
use Rattle.receiver.specs.Config.{Config}
use Rattle.receiver.specs.Heard.{HearsSaid, HearsStream, ReadsPacket}
use Rattle.receiver.specs.Receiver.{state_of}
use Rattle.receiver.specs.Streams.{repair_under, source_of, stream_of, typed}
use Rattle.receiver.specs.Window.{ReceiverState}
use Rattle.endpoint.specs.declared.heard.Heard.{Heard}
use Rattle.endpoint.specs.declared.probation.Probation.{Probation}
use Rattle.endpoint.specs.Demultiplex.{is_control}
use Rattle.endpoint.specs.Padding.{IsStripped}
use Rattle.endpoint.specs.Receiving.{Believes, Ends, HearsDatagram, HearsKind, HearsPacket, HearsStripped, HearsUnless, as_heard, media_number_of, wanted_at}
use Rattle.endpoint.specs.Seen.{is_repeat}
use Rattle.endpoint.specs.declared.seen_packets.SeenPacket.{SeenPacket}
use Rattle.endpoint.proofs.KindsTold.{One}

-- what a check refuses is spelled by no packet, and a retransmission has two octets of payload
abbrev pub Refuses : Type 0
Refuses = (p : RtpPacket) (octets : List ℕ) (fault : RtpFault) → rtp_fault octets ≡ Some fault → RtpSpells p octets → ⊥

abbrev pub Long : Type 0
Long = (repair : Repair) (packet : RtpPacket) → IsRepair repair packet → 2 ≤ length packet.payload

no_repair : (b : Bool) → ◌≡◌ {A = Result Stream ReceiveFault} (if b then Ok streams.Media else Err refused.UnknownType) (Ok streams.Repair) → ⊥
no_repair true is = absurd cc
no_repair false is = absurd cc

-- a packet of that stream is no media
not_media : (s : Streams) (source : Option ℕ) (p : RtpPacket) → stream_of s source p ≡ Ok streams.Repair → media_number_of s p ≡ None
not_media s source p is = elim (cases_Bool (p.ssrc == s.media_ssrc)) [
  | inl same ↦
      absurd (no_repair (p.payload_type == s.media_type)
      (ap (λ b. typed s p.payload_type (if b then Some streams.Media else repair_under s source p.ssrc)) (sym same) ∙ is))
  | inr other ↦ ap (λ b. if b && p.payload_type == s.media_type then Some p.sequence else None) other
]

module _ (one : One) (refuses : Refuses) (long : Long) (plain : List ℕ) (packet : RtpPacket) (spelled : RtpSpells packet plain) (empty : packet.payload ≡ []) where
  too_short : (room now : ℕ) (old new : Option ReceiverState) (answer : Result Taken ReceiveFault) → HearsStream room old packet now (Ok streams.Repair) answer new → answer ≡ Err (refused.Rtp rtp.NoOsn)
  too_short room now old new answer heard = elim heard [
    | inl short ↦ short.1
    | inr carried ↦
        let two : 2 ≤ length packet.payload = long _ packet carried.2 in
        let none : length packet.payload ≡ 0 = ap (λ (xs : List ℕ). length xs) empty in
        absurd (omega (arith, two, none))
  ]

  said_short : (room now : ℕ) (c : Config) (old new : Option ReceiverState) (said : Result RtpPacket RtpFault) (answer : Result Taken ReceiveFault) → ReadsPacket plain said → HearsSaid room c old said now answer new
      → stream_of c.session (source_of c old) packet ≡ Ok streams.Repair → answer ≡ Err (refused.Rtp rtp.NoOsn)
  said_short room now c old new (Err fault) answer reads heard is = absurd (refuses packet plain fault reads spelled)
  said_short room now c old new (Ok p) answer reads heard is =
      let here = subst (λ (q : RtpPacket). HearsStream room old q now (stream_of c.session (source_of c old) q) answer new) (one p packet plain reads spelled) heard in
      too_short room now old new answer (subst (λ (stream : Result Stream ReceiveFault). HearsStream room old packet now stream answer new) is here)

  module _ (p : Probation) (seen : List (Option SeenPacket)) (old new : Ends) (now : ℕ) (answer : Result Heard ReceiveFault) (is : stream_of old.core.config.session (source_of old.core.config (state_of old.core)) packet ≡ Ok streams.Repair) where
    packet_short : HearsPacket p seen old plain now answer new → answer ≡ Err (refused.Rtp rtp.NoOsn)
    packet_short hears =
        let none : hears.number ≡ None = hears.is_number packet spelled ∙ not_media old.core.config.session (source_of old.core.config (state_of old.core)) packet is in
        let believes : Believes p old None plain now answer new = subst (λ (n : Option ℕ). HearsUnless (nat_lt 0 (wanted_at p old.core.span n) && is_repeat seen n plain) p old (wanted_at p old.core.span n) n plain now answer new) none hears.heard in
        let it = believes.handed.hears in
        believes.answered
        ∙ ap (as_heard None) (said_short old.core.span.capacity now old.core.config (state_of old.core) (state_of new.core) it.said believes.taken it.says it.heard is)

    module _ (octets : List ℕ) (stripped : IsStripped octets plain) where
      stripped_short : (kept : Option (List ℕ)) → HearsStripped p seen old kept octets now answer new → answer ≡ Err (refused.Rtp rtp.NoOsn)
      stripped_short None hears = absurd (hears.0 plain stripped)
      stripped_short (Some kept) hears = packet_short (subst (λ (xs : List ℕ). HearsPacket p seen old xs now answer new) (hears.0.is ∙ sym stripped.is) hears.1)

      pub padding_short : is_control octets ≡ false → HearsDatagram p seen old octets now answer new → answer ≡ Err (refused.Rtp rtp.NoOsn)
      padding_short is_rtp hears = stripped_short hears.plain (subst (λ (b : Bool). HearsKind b p seen old hears.plain octets now answer new) is_rtp hears.heard)

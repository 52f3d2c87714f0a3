-- What a receiver answers to octets, by the laws of the crates below.
use Rattle.std.proofs.Common.{◌≡◌, ℕ, ◌+◌, ◌^◌, ◌<◌, ◌≤◌, List, length, arith, Option, Some, None, Result, Ok, Err, refl, sym, ap, subst, ◌∙◌, inl, inr, eq-eqb}
use Rattle.std.proofs.lemmas.Option.{none-some, same_Some}
use Rattle.places.specs.Place.{IsNear, IsFar, IsPastEnd}
use Rattle.rtpwire.specs.declared.content.Content.{Content}
use Rattle.rtpwire.specs.declared.fault.RtpFault.{RtpFault}
use Rattle.rtpwire.specs.Rtp.{RtpPacket, RtpSpells}
use Rattle.rtpwire.specs.RtpChecks.{rtp_fault}
use Rattle.rtpwire.specs.Content.{IsTooLong, packet_of}
use Rattle.rtpwire.specs.Retransmission.{Repair as RepairPacket, IsRepair, RepairSpells, repair_packet, repair_of}
use Rattle.receiver.specs.declared.answer.Taken.{Taken}
use Rattle.receiver.specs.declared.fault.ReceiveFault.{ReceiveFault}
use Rattle.receiver.specs.declared.fault.ReceiveFault.TheVariants as refused
use Rattle.receiver.specs.declared.stream.Stream.{Stream}
use Rattle.receiver.specs.declared.stream.Stream.TheVariants.{Media, Repair, Candidate}
use Rattle.receiver.specs.Config.{Config}
use Rattle.receiver.specs.Window.{ReceiverState}
use Rattle.receiver.specs.Streams.{stream_of, source_of}
use Rattle.receiver.specs.Heard.{AnswersCandidate, AnswersIn, AnswersNumber, TakesNumber, TakesCarried, Carries, IsTooShort, HearsStream, HearsSaid, ReadsPacket, Hears}
use Rattle.receiver.proofs.SameWindows.{Same, one_start_at, one_answer}

-- the laws of the crates below that this stands on
pub record Laws : Type 0 where
  pub one_packet : (p q : RtpPacket) (octets : List ℕ) → RtpSpells p octets → RtpSpells q octets → p ≡ q
  pub passes : (p : RtpPacket) (octets : List ℕ) → RtpSpells p octets → rtp_fault octets ≡ None
  pub one_content : (c d : Content) (padding sequence payload_type ssrc : ℕ) → packet_of c padding sequence payload_type ssrc ≡ packet_of d padding sequence payload_type ssrc → c ≡ d
  pub one_near : (highest seq p q : ℕ) → IsNear highest seq p → IsNear highest seq q → p ≡ q
  pub near_not_far : (highest seq p : ℕ) → IsNear highest seq p → IsFar highest seq → ⊥
  pub near_not_past_end : (highest seq p : ℕ) → p < 2 ^ 48 → IsNear highest seq p → IsPastEnd highest seq → ⊥
  pub far_not_past_end : (highest seq : ℕ) → IsFar highest seq → IsPastEnd highest seq → ⊥
  pub one_repair : (x y : RepairPacket) (p : RtpPacket) → IsRepair x p → IsRepair y p → x ≡ y
  pub long : (repair : RepairPacket) (p : RtpPacket) → IsRepair repair p → 2 ≤ length p.payload

module _ (laws : Laws) where
  same_repair : (p : RtpPacket) (m n : ℕ) (a b : RtpPacket) → IsRepair (record { original = m; packet = a }) p → IsRepair (record { original = n; packet = b }) p → (m ≡ n) × (a ≡ b)
  same_repair p m n a b x y =
      let same = laws.one_repair (record { original = m; packet = a }) (record { original = n; packet = b }) p x y in
      (ap (λ (r : RepairPacket). r.original) same, ap (λ (r : RepairPacket). r.packet) same)

  -- a packet of a stream carries one packet at most
  same_carried : (stream : Stream) (p : RtpPacket) (m n : ℕ) (a b : RtpPacket) → Carries stream p m a → Carries stream p n b → (m ≡ n) × (a ≡ b)
  same_carried Media p m n a b (number, is) (number', is') = (number ∙ sym number', is ∙ sym is')
  same_carried Repair p m n a b x y = same_repair p m n a b x y
  same_carried (Candidate ssrc) p m n a b x y = same_repair p m n a b x y

  not_short : (stream : Stream) (p : RtpPacket) (seq : ℕ) (carried : RtpPacket) → Carries stream p seq carried → IsTooShort stream p → ⊥
  not_short Media p seq carried carries short = short
  not_short Repair p seq carried carries short = let long = laws.long _ p carries in omega (arith, long, short)
  not_short (Candidate ssrc) p seq carried carries short = let long = laws.long _ p carries in omega (arith, long, short)

  module _ (room now : ℕ) (r s : Result Taken ReceiveFault) (v w : Option ReceiverState) where
    one_candidate : (ssrc : ℕ) (old : ReceiverState) (place : ℕ) (content : Content) (x y : Result Taken ReceiveFault) → AnswersCandidate ssrc room old place content now x v → AnswersCandidate ssrc room old place content now y w → Same x y v w
    one_candidate ssrc old place content (Ok t) (Ok u) (asked, a) (asked', b) = one_answer room (record old { learnt = Some ssrc }) place content now v w (Ok t) (Ok u) a b
    one_candidate ssrc old place content (Ok t) (Err refused.Unasked) (asked, a) (unasked, is) = absurd (unasked asked)
    one_candidate ssrc old place content (Err refused.Unasked) (Ok u) (unasked, is) (asked, b) = absurd (unasked asked)
    one_candidate ssrc old place content (Err refused.Unasked) (Err refused.Unasked) (unasked, is) (unasked', is') = (refl, is ∙ sym is')
    one_candidate ssrc old place content (Ok t) (Err fault) a never = absurd never
    one_candidate ssrc old place content (Err refused.Unasked) (Err fault) a never = absurd never
    one_candidate ssrc old place content (Err fault) y never b = absurd never

    one_in : (stream : Stream) (old : ReceiverState) (place : ℕ) (content : Content) → AnswersIn room stream old place content now r v → AnswersIn room stream old place content now s w → Same r s v w
    one_in Media old place content a b = one_answer room old place content now v w r s a b
    one_in Repair old place content a b = one_answer room old place content now v w r s a b
    one_in (Candidate ssrc) old place content a b = one_candidate ssrc old place content r s a b

    one_near : (stream : Stream) (old : ReceiverState) (seq : ℕ) (content : Content) → AnswersNumber room stream old seq content now r v → AnswersNumber room stream old seq content now s w → Same r s v w
    one_near stream old seq content (inl (far, is, same)) (inl (far', is', same')) = (is ∙ sym is', same ∙ sym same')
    one_near stream old seq content (inl (far, is, same)) (inr (inl (past, is', same'))) = absurd (laws.far_not_past_end old.highest seq far past)
    one_near stream old seq content (inl (far, is, same)) (inr (inr (q, near, fits, step))) = absurd (laws.near_not_far old.highest seq q near far)
    one_near stream old seq content (inr (inl (past, is, same))) (inl (far, is', same')) = absurd (laws.far_not_past_end old.highest seq far past)
    one_near stream old seq content (inr (inl (past, is, same))) (inr (inl (past', is', same'))) = (is ∙ sym is', same ∙ sym same')
    one_near stream old seq content (inr (inl (past, is, same))) (inr (inr (q, near, fits, step))) = absurd (laws.near_not_past_end old.highest seq q fits near past)
    one_near stream old seq content (inr (inr (p, near, fits, step))) (inl (far, is, same)) = absurd (laws.near_not_far old.highest seq p near far)
    one_near stream old seq content (inr (inr (p, near, fits, step))) (inr (inl (past, is, same))) = absurd (laws.near_not_past_end old.highest seq p fits near past)
    one_near stream old seq content (inr (inr (p, near, fits, step))) (inr (inr (q, near', fits', step'))) =
        one_in stream old p content step (subst (λ n. AnswersIn room stream old n content now s w) (laws.one_near old.highest seq q p near' near) step')

    one_number : (stream : Stream) (old : Option ReceiverState) (seq : ℕ) (content : Content) → TakesNumber room stream old seq content now r v → TakesNumber room stream old seq content now s w → Same r s v w
    one_number Media None seq content a b = one_start_at (65536 + seq) content r s v w a b
    one_number Repair None seq content (is, same) (is', same') = (is ∙ sym is', same ∙ sym same')
    one_number (Candidate ssrc) None seq content (is, same) (is', same') = (is ∙ sym is', same ∙ sym same')
    one_number stream (Some old) seq content a b = one_near stream old seq content a b

    one_carried : (stream : Stream) (old : Option ReceiverState) (seq : ℕ) (p : RtpPacket) → TakesCarried room stream old seq p now r v → TakesCarried room stream old seq p now s w → Same r s v w
    one_carried stream old seq p (inl (long, is, same)) (inl (long', is', same')) = (is ∙ sym is', same ∙ sym same')
    one_carried stream old seq p (inl (long, is, same)) (inr (short, d, carries, takes)) = absurd (short long)
    one_carried stream old seq p (inr (short, c, carries, takes)) (inl (long, is, same)) = absurd (short long)
    one_carried stream old seq p (inr (short, c, carries, takes)) (inr (short', d, carries', takes')) =
        let same : d ≡ c = laws.one_content d c p.padding p.sequence p.payload_type p.ssrc (carries' ∙ sym carries) in
        one_number stream old seq c takes (subst (λ (x : Content). TakesNumber room stream old seq x now s w) same takes')

    one_stream : (old : Option ReceiverState) (p : RtpPacket) (x : Result Stream ReceiveFault) → HearsStream room old p now x r v → HearsStream room old p now x s w → Same r s v w
    one_stream old p (Ok stream) (inl (short, is, same)) (inl (short', is', same')) = (is ∙ sym is', same ∙ sym same')
    one_stream old p (Ok stream) (inl (short, is, same)) (inr (seq, carried, carries, takes)) = absurd (not_short stream p seq carried carries short)
    one_stream old p (Ok stream) (inr (seq, carried, carries, takes)) (inl (short, is, same)) = absurd (not_short stream p seq carried carries short)
    one_stream old p (Ok stream) (inr (m, a, carries, takes)) (inr (n, b, carries', takes')) =
        let same = same_carried stream p n m b a carries' carries in
        one_carried stream old m a takes (subst (λ (x : ℕ × RtpPacket). TakesCarried room stream old x.0 x.1 now s w) (λ i. (same.0 i, same.1 i)) takes')
    one_stream old p (Err fault) (is, same) (is', same') = (is ∙ sym is', same ∙ sym same')

    one_packet_heard : (c : Config) (old : Option ReceiverState) (x : Result RtpPacket RtpFault) → HearsSaid room c old x now r v → HearsSaid room c old x now s w → Same r s v w
    one_packet_heard c old (Ok p) a b = one_stream old p (stream_of c.session (source_of c old) p) a b
    one_packet_heard c old (Err fault) (is, same) (is', same') = (is ∙ sym is', same ∙ sym same')

  -- octets say one thing
  one_said : (octets : List ℕ) (x y : Result RtpPacket RtpFault) → ReadsPacket octets x → ReadsPacket octets y → x ≡ y
  one_said octets (Ok p) (Ok q) a b = ap (λ (z : RtpPacket). Ok z) (laws.one_packet p q octets a b)
  one_said octets (Ok p) (Err fault) a b = absurd (none-some fault (sym (laws.passes p octets a) ∙ b))
  one_said octets (Err fault) (Ok q) a b = absurd (none-some fault (sym (laws.passes q octets b) ∙ a))
  one_said octets (Err f) (Err g) a b = ap (λ (z : RtpFault). Err z) (same_Some f g (sym a ∙ b))

  pub one_hearing : (room : ℕ) (c : Config) (old : Option ReceiverState) (octets : List ℕ) (now : ℕ) (r s : Result Taken ReceiveFault) (v w : Option ReceiverState) →
      Hears room c old octets now r v → Hears room c old octets now s w → Same r s v w
  one_hearing room c old octets now r s v w a b =
      one_packet_heard room now r s v w c old a.said a.heard
      (subst (λ (x : Result RtpPacket RtpFault). HearsSaid room c old x now s w) (one_said octets b.said a.said b.says a.says) b.heard)

  module _ (room : ℕ) (c : Config) (old : Option ReceiverState) (octets : List ℕ) (now : ℕ) (answer : Result Taken ReceiveFault) (new : Option ReceiverState) where
    abbrev media_packet : Content → (padding seq : ℕ) → RtpPacket
    media_packet content padding seq = packet_of content padding seq c.session.media_type c.session.media_ssrc

    -- what a packet of a stream carries is taken by its original number
    carried_heard : (stream : Stream) (p : RtpPacket) (seq : ℕ) (content : Content) (padding sequence payload_type ssrc : ℕ) → RtpSpells p octets →
        stream_of c.session (source_of c old) p ≡ Ok stream → Carries stream p seq (packet_of content padding sequence payload_type ssrc) →
        (IsTooLong (packet_of content padding sequence payload_type ssrc) → ⊥) → Hears room c old octets now answer new → TakesNumber room stream old seq content now answer new
    carried_heard stream p seq content padding sequence payload_type ssrc spells is carries short hears =
        by_stream (subst (λ (x : Result Stream ReceiveFault). HearsStream room old p now x answer new) is by)
      where
        by : HearsStream room old p now (stream_of c.session (source_of c old) p) answer new
        by = subst (λ (x : Result RtpPacket RtpFault). HearsSaid room c old x now answer new) (one_said octets hears.said (Ok p) hears.says spells) hears.heard

        taken : TakesCarried room stream old seq (packet_of content padding sequence payload_type ssrc) now answer new → TakesNumber room stream old seq content now answer new
        taken (inl (long, why, same)) = absurd (short long)
        taken (inr (fits, other, same, takes)) =
            subst (λ (x : Content). TakesNumber room stream old seq x now answer new) (laws.one_content other content padding sequence payload_type ssrc same) takes

        by_stream : HearsStream room old p now (Ok stream) answer new → TakesNumber room stream old seq content now answer new
        by_stream (inl (few, why, same)) = absurd (not_short stream p seq _ carries few)
        by_stream (inr (n, carried, carries', takes)) =
            let same = same_carried stream p n seq carried (packet_of content padding sequence payload_type ssrc) carries' carries in
            taken (subst (λ (x : ℕ × RtpPacket). TakesCarried room stream old x.0 x.1 now answer new) (λ i. (same.0 i, same.1 i)) takes)

    -- a media packet's content is taken by its number
    pub media_heard : (content : Content) (padding seq : ℕ) → RtpSpells (media_packet content padding seq) octets → (IsTooLong (media_packet content padding seq) → ⊥) →
        Hears room c old octets now answer new → TakesNumber room Media old seq content now answer new
    media_heard content padding seq spells short hears =
        carried_heard Media (media_packet content padding seq) seq content padding seq c.session.media_type c.session.media_ssrc spells is_media (refl, refl) short hears
      where
        is_media : stream_of c.session (source_of c old) (media_packet content padding seq) ≡ Ok Media
        is_media = rw (eq-eqb c.session.media_ssrc c.session.media_ssrc refl) (rw (eq-eqb c.session.media_type c.session.media_type refl) refl)

    -- a retransmission's content is taken by its original number
    pub repair_heard : (content : Content) (original sequence payload_type ssrc : ℕ) (stream : Stream) → RepairSpells content original sequence payload_type ssrc octets →
        (IsTooLong (packet_of content 0 sequence payload_type ssrc) → ⊥) →
        stream_of c.session (source_of c old) (repair_packet (repair_of content original sequence payload_type ssrc)) ≡ Ok stream → (stream ≡ Media → ⊥) →
        Hears room c old octets now answer new → TakesNumber room stream old original content now answer new
    repair_heard content original sequence payload_type ssrc Media spells short is never hears = absurd (never refl)
    repair_heard content original sequence payload_type ssrc Repair spells short is never hears =
        carried_heard Repair (repair_packet (repair_of content original sequence payload_type ssrc)) original content 0 sequence payload_type ssrc spells.spelled is
        (record { original = spells.number; sent = refl }) short hears
    repair_heard content original sequence payload_type ssrc (Candidate other) spells short is never hears =
        carried_heard (Candidate other) (repair_packet (repair_of content original sequence payload_type ssrc)) original content 0 sequence payload_type ssrc spells.spelled is
        (record { original = spells.number; sent = refl }) short hears

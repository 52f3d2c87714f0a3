-- What a receiver refuses has the number of the first check whose condition holds.
use Rattle.std.proofs.Common.{◌≡◌, ◌≢◌, ℕ, ◌+◌, ◌%◌, ◌^◌, ◌<◌, ◌≤◌, ◌==◌, Bool, true, false, true≢false, cond, List, [], ◌∷◌, length, arith, Option, Some, None, Result, Ok, Err, refl, sym, ap, subst, ◌∙◌, inl, inr, eq-eqb, eqb-true, ne_eqb, ltb, ltb-true, ltb-false, option_map, IsSomeAnd, IsSome, is_some}
use Rattle.std.specs.Prelude.{IsNone}
use Rattle.std.specs.Result.{result_err}
use Rattle.std.proofs.lemmas.Bool.{eqb-false, cases_lt}
use Rattle.std.proofs.lemmas.Option.{none-some}
use Rattle.places.specs.Place.{IsNear, IsFar}
use Rattle.stores.specs.declared.slot.PutFault.TheVariants.{Late, Duplicate}
use Rattle.rtpwire.specs.declared.limits.TheConstants.{MAX_WORDS}
use Rattle.rtpwire.specs.declared.content.Content.{Content}
use Rattle.rtpwire.specs.declared.fault.RtpFault.{RtpFault}
use Rattle.rtpwire.specs.Fault.{rtp_number}
use Rattle.rtpwire.specs.FirstOf.{FirstOf}
use Rattle.rtpwire.specs.InFront.{found_in_front, none_in_front}
use Rattle.rtpwire.specs.Rtp.{RtpPacket, RtpSpells}
use Rattle.rtpwire.specs.RtpChecks.{rtp_fault}
use Rattle.rtpwire.specs.RtpReading.{packet_in}
use Rattle.rtpwire.specs.RtpOrder.{rtp_order}
use Rattle.rtpwire.specs.Content.{IsTooLong}
use Rattle.rtpwire.specs.Retransmission.{Repair as RepairPacket, IsRepair, original_in}
use Rattle.receiver.specs.declared.answer.Taken.{Taken}
use Rattle.receiver.specs.declared.fault.ReceiveFault.{ReceiveFault}
use Rattle.receiver.specs.declared.fault.ReceiveFault.TheVariants as refused
use Rattle.receiver.specs.declared.stream.Stream.{Stream}
use Rattle.receiver.specs.declared.stream.Stream.TheVariants.{Media, Repair, Candidate}
use Rattle.receiver.specs.Config.{Config}
use Rattle.receiver.specs.Fault.{receive_number}
use Rattle.receiver.specs.Window.{ReceiverState, AnswersPlace, StartsAt}
use Rattle.receiver.specs.Streams.{learnt_by, source_of, repair_under, stream_under, type_of, typed, stream_of}
use Rattle.receiver.specs.Heard.{AnswersCandidate, AnswersIn, AnswersNumber, TakesNumber, Carries, IsTooShort, HearsStream, HearsSaid, ReadsPacket, Hears}
use Rattle.receiver.specs.Order.{IsToLearn, IsNoRepairSource, HasOtherType, CarriesTooMuch, sought, ahead, raised, near_place, place_order, packet_order, hearing_order}

-- the laws of the crates below that this stands on
pub record Laws : Type 0 where
  pub rtp_order : (octets : List ℕ) → FirstOf (rtp_order octets) (option_map rtp_number (rtp_fault octets))
  pub passes : (p : RtpPacket) (octets : List ℕ) → RtpSpells p octets → rtp_fault octets ≡ None
  pub seen : (p : RtpPacket) (octets : List ℕ) → RtpSpells p octets → packet_in octets ≡ p
  pub number : (repair : RepairPacket) (p : RtpPacket) → IsRepair repair p → original_in p.payload ≡ repair.original
  pub rest : (repair : RepairPacket) (p : RtpPacket) → IsRepair repair p → length p.payload ≡ 2 + length repair.packet.payload

-- the number of a refusal
abbrev refusal : Result Taken ReceiveFault → Option ℕ
refusal answer = option_map receive_number (result_err answer)

pick : {A : Type 0} (P : A → Type 0) (b : Bool) (x y : A) → (b ≡ true → P x) → (b ≡ false → P y) → P (cond b x y)
pick P true x y f g = f refl
pick P false x y f g = g refl

-- The stream of a packet.

module _ (c : Config) (old : Option ReceiverState) (p : RtpPacket) where
  abbrev IsNoSource : Type 0
  IsNoSource = (p.ssrc ≢ c.session.media_ssrc) × IsNoRepairSource c old p.ssrc

  -- which stream it is
  abbrev IsOf : Stream → Type 0
  IsOf Media = p.ssrc ≡ c.session.media_ssrc
  IsOf Repair = (p.ssrc ≢ c.session.media_ssrc) × (IsToLearn c old → ⊥)
  IsOf (Candidate ssrc) = (p.ssrc ≢ c.session.media_ssrc) × IsToLearn c old

  abbrev Under : Option Stream → Type 0
  Under None = IsNoSource
  Under (Some stream) = (IsNoSource → ⊥) × IsOf stream

  abbrev Typed : Result Stream ReceiveFault → Type 0
  Typed (Err refused.UnknownSource) = IsNoSource
  Typed (Err refused.UnknownType) = (IsNoSource → ⊥) × HasOtherType c p
  Typed (Err fault) = ⊥
  Typed (Ok stream) = (IsNoSource → ⊥) × (HasOtherType c p → ⊥) × IsOf stream

  under_known : p.ssrc ≢ c.session.media_ssrc → (known : ℕ) → (p.ssrc ≢ known → IsNoRepairSource c old p.ssrc) → (IsNoRepairSource c old p.ssrc → p.ssrc ≢ known) →
      (IsToLearn c old → ⊥) → Under (repair_under c.session (Some known) p.ssrc)
  under_known other known none some learnt =
      pick Under (p.ssrc == known) _ _
      (λ e. ((λ wrong. some wrong.1 (eqb-true _ _ e)), (other, learnt)))
      (λ e. (other, none (eqb-false _ _ e)))

  under_learnt : p.ssrc ≢ c.session.media_ssrc → c.learns ≡ true → (learnt : Option ℕ) → learnt_by old ≡ learnt → Under (repair_under c.session learnt p.ssrc)
  under_learnt other learns (Some known) is =
      under_known other known
      (λ not. inr (learns, rw is not))
      (λ wrong. elim wrong [ inl fixed ↦ absurd (true≢false (sym learns ∙ fixed.0)) | inr free ↦ rw is at free.1 ])
      (λ to. none-some known (sym to.nothing ∙ is))
  under_learnt other learns None is =
      pick Under (p.ssrc == c.session.receiver_ssrc) _ _
      (λ e. (other, inr (learns, rw is (eqb-true _ _ e))))
      (λ e. ((λ wrong. elim wrong.1 [ inl fixed ↦ absurd (true≢false (sym learns ∙ fixed.0)) | inr free ↦ eqb-false _ _ e (rw is at free.1) ]), (other, record { learns = learns; nothing = is })))

  under_source : p.ssrc ≢ c.session.media_ssrc → (learns : Bool) → c.learns ≡ learns → Under (repair_under c.session (cond learns (learnt_by old) (Some c.session.repair_ssrc)) p.ssrc)
  under_source other true learns = under_learnt other learns (learnt_by old) refl
  under_source other false learns =
      under_known other c.session.repair_ssrc
      (λ not. inl (learns, not))
      (λ wrong. elim wrong [ inl fixed ↦ fixed.1 | inr free ↦ absurd (true≢false (sym free.0 ∙ learns)) ])
      (λ to. true≢false (sym to.learns ∙ learns))

  under : Under (stream_under c.session (source_of c old) p.ssrc)
  under =
      pick Under (p.ssrc == c.session.media_ssrc) (Some Media) (repair_under c.session (source_of c old) p.ssrc)
      (λ e. ((λ wrong. wrong.0 (eqb-true _ _ e)), eqb-true _ _ e))
      (λ e. under_source (eqb-false _ _ e) c.learns refl)

  other_type : (stream : Stream) → IsOf stream → p.payload_type ≢ type_of c.session stream → HasOtherType c p
  other_type Media is not = inl (is, not)
  other_type Repair is not = inr (is.0, not)
  other_type (Candidate ssrc) is not = inr (is.0, not)

  same_type : (stream : Stream) → IsOf stream → p.payload_type ≡ type_of c.session stream → HasOtherType c p → ⊥
  same_type Media is same (inl wrong) = wrong.1 same
  same_type Media is same (inr wrong) = wrong.0 is
  same_type Repair is same (inl wrong) = is.0 wrong.0
  same_type Repair is same (inr wrong) = wrong.1 same
  same_type (Candidate ssrc) is same (inl wrong) = is.0 wrong.0
  same_type (Candidate ssrc) is same (inr wrong) = wrong.1 same

  by_type : (o : Option Stream) → Under o → Typed (typed c.session p.payload_type o)
  by_type None wrong = wrong
  by_type (Some stream) (some, is) =
      pick Typed (p.payload_type == type_of c.session stream) (Ok stream) (Err refused.UnknownType)
      (λ e. (some, same_type stream is (eqb-true _ _ e), is))
      (λ e. (some, other_type stream is (eqb-false _ _ e)))

  its_stream : Typed (stream_of c.session (source_of c old) p)
  its_stream = by_type (stream_under c.session (source_of c old) p.ssrc) under

-- Nearness by the distance modulo 65536.

near_by_distance : (h s r : ℕ) → IsNear (h + 65536) s r → (raised h s ≡ r) × (16384 ≤ ahead h s → ahead h s ≤ 49152 → ⊥)
near_by_distance h s r near =
    let same : r % 65536 ≡ s = near.same_number in
    let above : r < h + 65536 + 16384 = near.not_above in
    let below : h + 65536 < r + 16384 = near.not_below in
    (pick (λ n. n ≡ r) (ltb (ahead h s) 16384) _ _ (λ e. let less = ltb-true _ _ e in omega arith) (λ e. let more = ltb-false _ _ e in omega arith), λ low high. omega arith)

far_by_distance : (h s : ℕ) → s < 65536 → IsFar h s → (16384 ≤ ahead h s) × (ahead h s ≤ 49152)
far_by_distance h s fits far = (
  elim (cases_lt (ahead h s) 16384) [ inl less ↦ absurd (far (h + 65536 + ahead h s) (record { same_number = omega arith; not_above = omega arith; not_below = omega arith })) | inr more ↦ more ],
  elim (cases_lt 49152 (ahead h s)) [ inl less ↦ absurd (far (h + ahead h s) (record { same_number = omega arith; not_above = omega arith; not_below = omega arith })) | inr more ↦ more ],
)

near_up : (h s q : ℕ) → IsNear h s q → IsNear (h + 65536) s (q + 65536)
near_up h s q near = let same : q % 65536 ≡ s = near.same_number in let above = near.not_above in let below = near.not_below in
    record { same_number = omega arith; not_above = omega arith; not_below = omega arith }

-- the number is found one cycle up
up_is : (h s q : ℕ) → IsNear h s q → (near_place h s ≡ q) × (16384 ≤ ahead h s → ahead h s ≤ 49152 → ⊥) × (raised h s ≡ q + 65536)
up_is h s q near = let by = near_by_distance h s (q + 65536) (near_up h s q near) in let is = by.0 in (omega (arith, is), by.1, by.0)

-- the checks of a content at its place, at a started receiver
abbrev at_place : Config → RtpPacket → ReceiverState → (place : ℕ) → List (ℕ × Type 0)
at_place c p w place =
    (38, IsToLearn c (Some w) × (p.ssrc ≢ c.session.media_ssrc) × (IsSomeAnd (w.missing place) (λ m. 0 < m.asks) → ⊥))
    ∷ (35, place < w.cursor)
    ∷ (36, IsSome (w.held place))
    ∷ []

window_in_order : (room : ℕ) (w : ReceiverState) (place : ℕ) (content : Content) (now : ℕ) (answer : Result Taken ReceiveFault) (new : Option ReceiverState) →
    AnswersPlace room w place content now answer new → FirstOf ((35, place < w.cursor) ∷ (36, IsSome (w.held place)) ∷ []) (refusal answer)
window_in_order room w place content now (Ok taken) new (is, above, free, overrun, takes) = inr ((λ late. omega (arith, late, above)), inr ((λ held. true≢false (sym held ∙ ap (λ o. is_some o) free)), refl))
window_in_order room w place content now (Err (refused.Put Late)) new (late, same) = inl (late, refl)
window_in_order room w place content now (Err (refused.Put Duplicate)) new (above, held, same) = inr ((λ late. omega (arith, late, above)), inl (held, refl))
window_in_order room w place content now (Err fault) new never = absurd never

candidate_in_order : (ssrc room : ℕ) (c : Config) (p : RtpPacket) (w : ReceiverState) (place : ℕ) (content : Content) (now : ℕ) (answer : Result Taken ReceiveFault) (new : Option ReceiverState) →
    IsOf c (Some w) p (Candidate ssrc) → AnswersCandidate ssrc room w place content now answer new → FirstOf (at_place c p w place) (refusal answer)
candidate_in_order ssrc room c p w place content now (Ok taken) new is (asked, step) =
    inr ((λ not. not.2 asked), window_in_order room (record w { learnt = Some ssrc }) place content now (Ok taken) new step)
candidate_in_order ssrc room c p w place content now (Err refused.Unasked) new is (not, same) = inl ((is.1, is.0, not), refl)
candidate_in_order ssrc room c p w place content now (Err fault) new is never = absurd never

stream_in_order : (room : ℕ) (c : Config) (p : RtpPacket) (stream : Stream) (w : ReceiverState) (place : ℕ) (content : Content) (now : ℕ) (answer : Result Taken ReceiveFault) (new : Option ReceiverState) →
    IsOf c (Some w) p stream → AnswersIn room stream w place content now answer new → FirstOf (at_place c p w place) (refusal answer)
stream_in_order room c p Media w place content now answer new is step = inr ((λ not. not.1 is), window_in_order room w place content now answer new step)
stream_in_order room c p Repair w place content now answer new is step = inr ((λ not. is.1 not.0), window_in_order room w place content now answer new step)
stream_in_order room c p (Candidate ssrc) w place content now answer new is step = candidate_in_order ssrc room c p w place content now answer new is step

some_left : (w : ReceiverState) → IsNone (Some w) → ⊥
some_left w e = absurd cc

module _ (room : ℕ) (c : Config) (p : RtpPacket) (now : ℕ) (answer : Result Taken ReceiveFault) (new : Option ReceiverState) where
  starts_in_order : (stream : Stream) (seq : ℕ) (content : Content) → IsOf c None p stream → TakesNumber room stream None seq content now answer new → FirstOf (place_order c None p seq) (refusal answer)
  starts_in_order Media seq content is step = inr ((λ wrong. wrong.1 is), inr ((λ never. never), inr ((λ never. never), inr ((λ wrong. wrong.1 is), inr ((λ never. never), inr ((λ never. never), taken answer step))))))
    where
      taken : (a : Result Taken ReceiveFault) → StartsAt (65536 + seq) content a new → refusal a ≡ None
      taken (Ok t) step = refl
      taken (Err fault) never = absurd never
  starts_in_order Repair seq content is (why, same) = inl ((refl, is.0), ap refusal why)
  starts_in_order (Candidate ssrc) seq content is (why, same) = inl ((refl, is.0), ap refusal why)

  near_in_order : (stream : Stream) (w : ReceiverState) (seq : ℕ) (content : Content) → seq < 65536 → IsOf c (Some w) p stream → AnswersNumber room stream w seq content now answer new → FirstOf (place_order c (Some w) p seq) (refusal answer)
  near_in_order stream w seq content fits is (inl (far, why, same)) = inr ((λ wrong. some_left w wrong.0), inl (far_by_distance w.highest seq fits far, ap refusal why))
  near_in_order stream w seq content fits is (inr (inl ((r, near, outside), why, same))) =
      let by = near_by_distance w.highest seq r near in
      inr ((λ wrong. some_left w wrong.0), inr ((λ far. by.1 far.0 far.1), inl (rw by.0 outside, ap refusal why)))
  near_in_order stream w seq content fits is (inr (inr (place, near, small, step))) =
      let by = up_is w.highest seq place near in
      let size : place < 2 ^ 48 = small in
      let up : raised w.highest seq ≡ place + 65536 = by.2 in
      inr (
        (λ wrong. some_left w wrong.0),
        inr (
          (λ far. by.1 far.0 far.1),
          inr (
            (λ past. elim past [ inl below ↦ omega (arith, up, below) | inr above ↦ omega (arith, up, above, size) ]),
            subst (λ (q : ℕ). FirstOf (at_place c p w q) (refusal answer)) (sym by.0) (stream_in_order room c p stream w place content now answer new is step),
          ),
        ),
      )

  number_in_order : (stream : Stream) (old : Option ReceiverState) (seq : ℕ) (content : Content) → seq < 65536 → IsOf c old p stream → TakesNumber room stream old seq content now answer new → FirstOf (place_order c old p seq) (refusal answer)
  number_in_order stream None seq content fits is step = starts_in_order stream seq content is step
  number_in_order stream (Some w) seq content fits is step = near_in_order stream w seq content fits is step

module _ (laws : Laws) (room : ℕ) (c : Config) (old : Option ReceiverState) (now : ℕ) (answer : Result Taken ReceiveFault) (new : Option ReceiverState) where
  -- What a packet of a stream carries, by the packet itself.
  pub record Carried (p : RtpPacket) (seq : ℕ) (carried : RtpPacket) : Type 0 where
    pub number : seq ≡ sought c p
    pub fits : seq < 65536
    pub long : IsTooLong carried → CarriesTooMuch c p
    pub short : CarriesTooMuch c p → IsTooLong carried
    pub whole : (p.ssrc ≢ c.session.media_ssrc) × (length p.payload < 2) → ⊥

  sought_media : (p : RtpPacket) → p.ssrc ≡ c.session.media_ssrc → sought c p ≡ p.sequence
  sought_media p is = rw (eq-eqb p.ssrc c.session.media_ssrc is) refl

  sought_original : (p : RtpPacket) → p.ssrc ≢ c.session.media_ssrc → sought c p ≡ original_in p.payload
  sought_original p not = rw (ne_eqb p.ssrc c.session.media_ssrc not) refl

  media_carried : (p carried : RtpPacket) (seq : ℕ) → p.sequence < 65536 → p.ssrc ≡ c.session.media_ssrc → seq ≡ p.sequence → carried ≡ p → Carried p seq carried
  media_carried p carried seq fits is number same =
      record {
        number = number ∙ sym (sought_media p is);
        fits = rw number fits;
        long = λ long. elim (subst IsTooLong same long) [ inl payload ↦ inl (is, payload) | inr words ↦ inr (inr words) ];
        short = λ much. subst IsTooLong (sym same) (elim much [ inl payload ↦ inl payload.1 | inr (inl wrong) ↦ absurd (wrong.0 is) | inr (inr words) ↦ inr words ]);
        whole = λ wrong. wrong.0 is;
      }

  repair_carried : (p carried : RtpPacket) (seq : ℕ) → p.ssrc ≢ c.session.media_ssrc → IsRepair (record { original = seq; packet = carried }) p → Carried p seq carried
  repair_carried p carried seq not repair =
      let size : length p.payload ≡ 2 + length carried.payload = laws.rest (record { original = seq; packet = carried }) p repair in
      let same : p.extension ≡ carried.extension = ap (λ (x : RtpPacket). x.extension) repair.sent in
      record {
        number = sym (laws.number (record { original = seq; packet = carried }) p repair) ∙ sym (sought_original p not);
        fits = repair.original;
        long = λ long. elim long [ inl payload ↦ inr (inl (not, omega (arith, payload, size))) | inr words ↦ inr (inr (subst (λ e. IsSomeAnd e (λ e. MAX_WORDS < length e.1)) (sym same) words)) ];
        short = λ much. elim much [ inl wrong ↦ absurd (not wrong.0) | inr (inl payload) ↦ inl (let more = payload.1 in omega (arith, more, size)) | inr (inr words) ↦ inr (subst (λ e. IsSomeAnd e (λ e. MAX_WORDS < length e.1)) same words) ];
        whole = λ few. let less = few.1 in omega (arith, less, size);
      }

  its_carried : (p : RtpPacket) (stream : Stream) (seq : ℕ) (carried : RtpPacket) → p.sequence < 65536 → IsOf c old p stream → Carries stream p seq carried → Carried p seq carried
  its_carried p Media seq carried fits is carries = media_carried p carried seq fits is carries.0 carries.1
  its_carried p Repair seq carried fits is carries = repair_carried p carried seq is.0 carries
  its_carried p (Candidate ssrc) seq carried fits is carries = repair_carried p carried seq is.0 carries

  too_short : (p : RtpPacket) (stream : Stream) → IsOf c old p stream → IsTooShort stream p → (p.ssrc ≢ c.session.media_ssrc) × (length p.payload < 2)
  too_short p Media is never = absurd never
  too_short p Repair is short = (is.0, short)
  too_short p (Candidate ssrc) is short = (is.0, short)

  carried_in_order : (p : RtpPacket) (stream : Stream) → p.sequence < 65536 → IsOf c old p stream → HearsStream room old p now (Ok stream) answer new →
      FirstOf ((6, (p.ssrc ≢ c.session.media_ssrc) × (length p.payload < 2)) ∷ (37, CarriesTooMuch c p) ∷ place_order c old p (sought c p)) (refusal answer)
  carried_in_order p stream fits is (inl (short, why, same)) = inl (too_short p stream is short, ap refusal why)
  carried_in_order p stream fits is (inr (seq, carried, carries, inl (long, why, same))) =
      let has = its_carried p stream seq carried fits is carries in
      inr (has.whole, inl (has.long long, ap refusal why))
  carried_in_order p stream fits is (inr (seq, carried, carries, inr (short, content, held, takes))) =
      let has = its_carried p stream seq carried fits is carries in
      inr (has.whole, inr ((λ much. short (has.short much)), subst (λ (n : ℕ). FirstOf (place_order c old p n) (refusal answer)) has.number (number_in_order room c p now answer new stream old seq content has.fits is takes)))

  packet_in_order : (p : RtpPacket) → p.sequence < 65536 → (x : Result Stream ReceiveFault) → Typed c old p x → HearsStream room old p now x answer new → FirstOf (packet_order c old p) (refusal answer)
  packet_in_order p fits (Err refused.UnknownSource) wrong (why, same) = inl (wrong, ap refusal why)
  packet_in_order p fits (Err refused.UnknownType) (some, other) (why, same) = inr (some, inl (other, ap refusal why))
  packet_in_order p fits (Ok stream) (some, same, is) heard = inr (some, inr (same, carried_in_order p stream fits is heard))
  packet_in_order p fits (Err fault) never heard = absurd never

  said_in_order : (octets : List ℕ) (x : Result RtpPacket RtpFault) → ReadsPacket octets x → HearsSaid room c old x now answer new → FirstOf (hearing_order c old octets) (refusal answer)
  unfolding hearing_order
  said_in_order octets (Ok p) says heard =
      let front : FirstOf (rtp_order octets) None = subst (λ (fault : Option RtpFault). FirstOf (rtp_order octets) (option_map rtp_number fault)) (laws.passes p octets says) (laws.rtp_order octets) in
      none_in_front (rtp_order octets) (packet_order c old (packet_in octets)) (refusal answer) front
      (subst (λ (q : RtpPacket). FirstOf (packet_order c old q) (refusal answer)) (sym (laws.seen p octets says)) (packet_in_order p says.packet.sequence _ (its_stream c old p) heard))
  said_in_order octets (Err fault) says (why, same) =
      let front : FirstOf (rtp_order octets) (Some (rtp_number fault)) = subst (λ (fault : Option RtpFault). FirstOf (rtp_order octets) (option_map rtp_number fault)) says (laws.rtp_order octets) in
      subst (λ (n : Option ℕ). FirstOf (hearing_order c old octets) n) (sym (ap refusal why)) (found_in_front (rtp_order octets) (packet_order c old (packet_in octets)) (rtp_number fault) front)

  pub in_order : (octets : List ℕ) → Hears room c old octets now answer new → FirstOf (hearing_order c old octets) (refusal answer)
  in_order octets hears = said_in_order octets hears.said hears.says hears.heard

-- A close and honest log is a run of the place world.
use Rattle.std.proofs.Common.{◌≡◌, ℕ, ◌+◌, ◌^◌, ◌<◌, List, [], ◌∷◌, ◌++◌, map, take, Bool, true, false, if◌then◌else◌, Option, Some, None, Result, Ok, Err, refl, sym, ap, subst, ◌∙◌, inl, inr, arith}
use Rattle.std.specs.Prelude.{slice_get, option_map}
use Rattle.std.proofs.lemmas.List.{length-map, map-append}
use Rattle.std.proofs.lemmas.Bool.Decides.{nat_tests}
use Rattle.std.proofs.lemmas.Option.{slice_get-map, same_Some}
use Rattle.arrayvec.specs.ArrayVec.{ArrayVec}
use Rattle.places.specs.Among.{is_among}
use Rattle.places.specs.Place.{number, IsWithin}
use Rattle.rtpwire.specs.declared.content.Content.{Content}
use Rattle.rtpwire.specs.Rtp.{RtpPacket, RtpSpells}
use Rattle.rtpwire.specs.Content.{IsTooLong, packet_of}
use Rattle.rtpwire.specs.Retransmission.{RepairSpells, repair_packet, repair_of}
use Rattle.rtpwire.specs.Session.{HasSsrcs}
use Rattle.fbwire.specs.declared.fault.FeedbackFault.{FeedbackFault}
use Rattle.fbwire.specs.declared.nack.Pair.{Pair}
use Rattle.fbwire.specs.Nack.{Nack, NackSpells}
use Rattle.sender.specs.declared.answer.Marked.{Marked as Marking}
use Rattle.sender.specs.Config.{Config as SenderConfig}
use Rattle.sender.specs.Feedback.{HearsFeedback, MarksAlone, MarksOrRefuses}
use Rattle.sender.specs.declared.fault.SendFault.{SendFault}
use Rattle.sender.specs.declared.fault.SendFault.TheVariants.{PaddedEmpty, Exhausted}
use Rattle.sender.specs.History.{SenderState, Sends}
use Rattle.sender.specs.Sending.{SendsAny}
use Rattle.receiver.specs.declared.answer.Taken.{Taken as Took}
use Rattle.receiver.specs.declared.fault.ReceiveFault.{ReceiveFault}
use Rattle.receiver.specs.Config.{Config as Receiving}
use Rattle.receiver.specs.Window.{ReceiverState, PlaysAny}
use Rattle.receiver.specs.declared.stream.Stream.{Stream}
use Rattle.receiver.specs.declared.stream.Stream.TheVariants as streams
use Rattle.receiver.specs.Streams.{learnt_by, source_of, stream_of}
use Rattle.receiver.specs.Heard.{AnswersNumber, TakesNumber, Hears}
use Rattle.stores.specs.Asking.{longest_ask}
use Rattle.receiver.specs.Asks.{AsksBy, AsksAny}
use Rattle.world.specs.declared.event.Event.{Event}
use Rattle.world.specs.declared.event.Event.TheVariants.{Send, Repair as Retransmit, Ask, Deliver, Play, Inject}
use Rattle.world.specs.declared.event.End.{End}
use Rattle.world.specs.declared.event.End.TheVariants.{Sender, Receiver}
use Rattle.world.specs.declared.event.Label.{Label}
use Rattle.world.specs.declared.event.Label.TheVariants.{Media, Repair, Feedback}
use Rattle.world.specs.declared.event.Answer.{Answer}
use Rattle.world.specs.declared.event.Entry.{Entry}
use Rattle.world.specs.declared.event.Entry.TheVariants.{Sent, SendRefused, Repaired, NoRepair, Asked, NoAsk, Nothing, Delivered, Injected, Played}
use Rattle.world.specs.Config.{Config, IsConfig, sending}
use Rattle.world.specs.Labels.{place_of}
use Rattle.world.specs.Answers.{Item, WorldState, told_marks, nack_of, SenderHears, HearsAt, AsksTo, DeliversAt, Answers}
use Rattle.world.specs.Reach.{highest_taken, shift_of}
use Rattle.world.specs.Close.{close_distance, IsCloseTo, IsClose, IsHonest}
use Rattle.world.specs.PlaceRun.{PlaceWorld, repair_in, AnswersLabel, ReceivesLabel, HearsFeedbackOf, HearsLabel, RefusesSend, AsksAnyBy, NoneDue, MarksAnything, PlaceRun, label_of, places_of}
use Rattle.world.proofs.Among.{none_of_few}
use Rattle.world.proofs.Faithful.{Wired, OneNack, wired, spelled}
use Rattle.world.proofs.Marked.{AnyFeedback, Decided}
use Rattle.world.proofs.Learnt.{IsOwn, LearntIs, learnt_is}
use Rattle.world.proofs.Near.{near_own, near_within, far_apart, never_past}
use Rattle.world.proofs.Kept.{KeptBy, Keeps}
use Rattle.world.proofs.Right.{goes}

-- what a started receiver answers to a sequence number is what it answers to the place
near_label : (c : Config) (past : List Entry) (stream : Stream) (w : ReceiverState) (new : Option ReceiverState) (p : ℕ) (content : Content) (now : ℕ) (heard : Result Took ReceiveFault) →
    p < 2 ^ 48 → KeptBy c past w → IsCloseTo (highest_taken past) (Some p) → AnswersNumber c.window stream w (number p) content now heard new → AnswersLabel c (shift_of past) stream w p content now heard new
near_label c past stream w new p content now heard small kept close step = found (subst (λ o. IsCloseTo o (Some p)) kept.highest close) step
  where
    found : IsWithin close_distance p (w.highest + shift_of past) → AnswersNumber c.window stream w (number p) content now heard new → AnswersLabel c (shift_of past) stream w p content now heard new
    found near (inl (far, is, same)) = inl (far_apart w.highest (shift_of past) kept.cycles p kept.whole near kept.started far, is, same)
    found near (inr (inl (past_end, is, same))) = absurd (never_past w.highest (shift_of past) kept.cycles p kept.whole near kept.started small past_end)
    found near (inr (inr (q, is_near, below, answers))) =
        inr (q, near_own w.highest (shift_of past) kept.cycles p kept.whole near q is_near, near_within w.highest (shift_of past) kept.cycles p kept.whole near q is_near, answers)

-- the number of a sent packet reaches the receiver
numbered : (c : Config) (past : List Entry) (stream : Stream) (old new : Option ReceiverState) (p : ℕ) (content : Content) (now : ℕ) (heard : Result Took ReceiveFault) →
    p < 2 ^ 48 → Keeps c past old → IsCloseTo (highest_taken past) (Some p) → TakesNumber c.window stream old (number p) content now heard new → ReceivesLabel c (shift_of past) stream old p content now heard new
numbered c past stream None new p content now heard small fresh close step = step
numbered c past stream (Some w) new p content now heard small kept close step = near_label c past stream w new p content now heard small kept close step

labels_more : (wire new : List Item) (x : Item) → new ≡ wire ++ x ∷ [] → map label_of new ≡ map label_of wire ++ x.0 ∷ []
labels_more wire new x is = ap (map label_of) is ∙ map-append label_of wire (x ∷ [])

label_at : (wire : List Item) (i : ℕ) (item : Item) → slice_get wire i ≡ Some item → slice_get (map label_of wire) i ≡ Some item.0
label_at wire i item there = slice_get-map label_of wire i ∙ ap (option_map label_of) there

refuses : (c : Config) (old : SenderState) (content : Content) (padding : ℕ) (fault : SendFault) (new : SenderState) → SendsAny c.receiver.session c.history old content padding (Err fault) new → RefusesSend old.next fault
refuses c old content padding PaddedEmpty new why = tt
refuses c old content padding Exhausted new why = why.1

-- what the receiver answers to octets that spell a media packet or a retransmission, and the sender to those of a NACK,
-- by their laws
abbrev pub MediaHearing : Type 0
MediaHearing =
    (room : ℕ) (c : Receiving) (old : Option ReceiverState) (octets : List ℕ) (now : ℕ) (answer : Result Took ReceiveFault) (new : Option ReceiverState) (content : Content) (padding seq : ℕ) →
    RtpSpells (packet_of content padding seq c.session.media_type c.session.media_ssrc) octets → (IsTooLong (packet_of content padding seq c.session.media_type c.session.media_ssrc) → ⊥) →
    Hears room c old octets now answer new → TakesNumber room streams.Media old seq content now answer new

abbrev pub RepairHearing : Type 0
RepairHearing =
    (room : ℕ) (c : Receiving) (old : Option ReceiverState) (octets : List ℕ) (now : ℕ) (answer : Result Took ReceiveFault) (new : Option ReceiverState) (content : Content) (original sequence payload_type ssrc : ℕ) (stream : Stream) →
    RepairSpells content original sequence payload_type ssrc octets → (IsTooLong (packet_of content 0 sequence payload_type ssrc) → ⊥) →
    stream_of c.session (source_of c old) (repair_packet (repair_of content original sequence payload_type ssrc)) ≡ Ok stream → (stream ≡ streams.Media → ⊥) →
    Hears room c old octets now answer new → TakesNumber room stream old original content now answer new

abbrev pub NackHearing : Type 0
NackHearing =
    (c : SenderConfig) (old : SenderState) (octets : List ℕ) (answer : Result Marking FeedbackFault) (new : SenderState) (nack : Nack) →
    NackSpells nack octets → nack.media ≡ c.session.media_ssrc → nack.reporter ≡ c.session.receiver_ssrc → HearsFeedback c old octets answer new → MarksAlone c old nack answer new

pub record Laws : Type 0 where
  pub media : MediaHearing
  pub repair : RepairHearing
  pub nack : NackHearing
  pub any : AnyFeedback
  pub decided : Decided
  pub one_nack : OneNack

-- the stream of the session's retransmissions
module _ (c : Config) (apart : HasSsrcs c.receiver.session) (p : RtpPacket) (type_is : p.payload_type ≡ c.receiver.session.repair_type) (ssrc_is : p.ssrc ≡ c.receiver.session.repair_ssrc) where
  repair_stream : (source : Option ℕ) → IsOwn c source → stream_of c.receiver.session source p ≡ Ok (repair_in c.receiver source)
  repair_stream None own = let repair = apart.repair in let reporter = apart.reporter in grind (arith, nat_tests, type_is, ssrc_is, repair, reporter)
  repair_stream (Some known) own = let repair = apart.repair in let same = own known refl in grind (arith, nat_tests, type_is, ssrc_is, repair, same)

own_known : (c : Config) (learnt : Option ℕ) (b : Bool) → IsOwn c learnt → IsOwn c (if b then learnt else Some c.receiver.session.repair_ssrc)
own_known c learnt true own = own
own_known c learnt false own = λ ssrc is. sym (same_Some c.receiver.session.repair_ssrc ssrc is)

no_media : (c : Config) (source : Option ℕ) → repair_in c.receiver source ≡ streams.Media → ⊥
no_media c None is = cc
no_media c (Some known) is = cc

-- feedback marks for the numbers of its pairs
marked_as : (c : Config) (old new : PlaceWorld) (pairs : ArrayVec Pair) (heard : Result Marking FeedbackFault) →
    MarksAlone (sending c) old.sender (nack_of c.receiver.session pairs.items) heard new.sender → new.receiver ≡ old.receiver → HearsFeedbackOf c old (Feedback pairs) (told_marks heard) new
marked_as c old new pairs (Ok marking) marks is = (marks, is)
marked_as c old new pairs (Err fault) never is = absurd never

-- an ask by the pairs of its label
pub asked_by : OneNack → (c : Config) (now index : ℕ) (old new : WorldState) (step : AsksTo c old now index new) (r : Option ReceiverState) → AsksAny c.receiver r now (Some step.datagram) new.receiver → AsksAnyBy c.receiver r now step.pairs.items new.receiver
asked_by one c now index old new step None (none, is) = absurd cc
asked_by one c now index old new step (Some w) asks =
    let answer = asks.answers.1 in
    let same : answer.pairs ≡ step.pairs.items = ap (λ (n : Nack). n.pairs) (one step.datagram.items (nack_of c.receiver.session answer.pairs) (nack_of c.receiver.session step.pairs.items) answer.spells step.spells) in
    record { due = asks.due; each = asks.each; some = λ none. asks.answers.0 (ap (take longest_ask) none); asked = subst (λ (pairs : List Pair). AsksBy w (take longest_ask asks.due) now pairs new.receiver) same answer.asked }

pub none_due : (c : Receiving) (now : ℕ) (r new : Option ReceiverState) → AsksAny c r now None new → NoneDue c r now
none_due c now None new step = tt
none_due c now (Some w) new asks = λ k. sym (asks.each.each k) ∙ ap (λ (due : List ℕ). is_among due k) (none_of_few longest_ask asks.due (omega arith) asks.answers.0)

-- what is injected at the sender marks something, or nothing
injected_as : (c : Config) (old new : PlaceWorld) (heard : Result Marking FeedbackFault) → MarksOrRefuses (sending c) old.sender heard new.sender → new.receiver ≡ old.receiver → MarksAnything c old (told_marks heard) new
injected_as c old new (Ok marking) (nacks, marks) is = (nacks, (marks, is))
injected_as c old new (Err fault) same is = (same, is)

module _ (laws : Laws) where
  -- a datagram reaches its end as its label does
  pub heard_as : (c : Config) → IsConfig c → (past : List Entry) (old new : WorldState) (index : ℕ) (label : Label) (now : ℕ) (answer : Answer) →
      Keeps c past old.receiver → LearntIs c old.receiver → IsCloseTo (highest_taken past) (place_of label) → Wired c past old → DeliversAt c old index label now answer new → HearsLabel c past (places_of old) label now answer (places_of new)
  heard_as c met past old new index (Media p) now answer keeps own close is delivers =
      let spells = spelled c past old.wire index (Media p, delivers.datagram) is.faithful delivers.there in
      let fits = is.sent p spells.0 spells.2 in
      let number_heard =
      laws.media c.window c.receiver old.receiver delivers.datagram.items now delivers.hears.heard new.receiver spells.0 spells.1 (number p) spells.3 fits.1 delivers.hears.hears in
      record {
        content = spells.0;
        was_sent = spells.2;
        heard = delivers.hears.heard;
        receives = numbered c past streams.Media old.receiver new.receiver p spells.0 now delivers.hears.heard fits.0 keeps close number_heard;
        tells = delivers.hears.tells;
        sender = delivers.hears.sender;
      }
  heard_as c met past old new index (Repair p) now answer keeps own close is delivers =
      let spells = spelled c past old.wire index (Repair p, delivers.datagram) is.faithful delivers.there in
      let fits = is.sent p spells.content spells.was_sent in
      let session = c.receiver.session in
      let source = source_of c.receiver old.receiver in
      let stream = repair_in c.receiver source in
      let packet = repair_packet (repair_of spells.content (number p) spells.sequence session.repair_type session.repair_ssrc) in
      let is_stream = repair_stream c met.apart packet refl refl source (own_known c (learnt_by old.receiver) c.receiver.learns own) in
      let number_heard =
      laws.repair c.window c.receiver old.receiver delivers.datagram.items now delivers.hears.heard new.receiver spells.content (number p) spells.sequence session.repair_type session.repair_ssrc stream spells.spelled fits.1
      is_stream (no_media c source) delivers.hears.hears in
      record {
        content = spells.content;
        was_sent = spells.was_sent;
        heard = delivers.hears.heard;
        receives = numbered c past stream old.receiver new.receiver p spells.content now delivers.hears.heard fits.0 keeps close number_heard;
        tells = delivers.hears.tells;
        sender = delivers.hears.sender;
      }
  heard_as c met past old new index (Feedback pairs) now answer keeps own close is delivers =
      let spells = spelled c past old.wire index (Feedback pairs, delivers.datagram) is.faithful delivers.there in
      let marks = laws.nack (sending c) old.sender delivers.datagram.items delivers.hears.heard new.sender (nack_of c.receiver.session pairs.items) spells refl refl delivers.hears.hears in
      subst (λ (a : Answer). HearsFeedbackOf c (places_of old) (Feedback pairs) a (places_of new)) (sym delivers.hears.tells) (marked_as c (places_of old) (places_of new) pairs delivers.hears.heard marks delivers.hears.receiver)

  pub simulates : (c : Config) → IsConfig c → (events : List Event) (past : List Entry) (end : WorldState) → Answers c events past end → IsClose past → IsHonest past → PlaceRun c past (places_of end)
  simulates c met [] [] end is close honest = ap places_of is
  simulates c met [] (entry ∷ past) end never close honest = absurd never
  simulates c met (event ∷ events) [] end never close honest = absurd never
  simulates c met (Send content padding ∷ events) (Sent place index sent ∷ past) end (old, before, (same, step)) close honest = (
    places_of old,
    simulates c met events past old before close honest,
    (
      step.sends.place_is,
      step.sends.fits,
      step.index_is ∙ sym (length-map old.wire label_of),
      subst (λ (x : Content). Sends c.history old.sender x end.sender) (sym same) step.sends.sends,
      labels_more old.wire end.wire (Media place, step.datagram) step.wire,
      step.receiver,
    ),
  )
  simulates c met (Send content padding ∷ events) (SendRefused fault ∷ past) end (old, before, (why, is)) close honest =
      (places_of old, simulates c met events past old before close honest, (refuses c old.sender content padding fault end.sender why, ap places_of is))
  simulates c met (Retransmit ∷ events) (Repaired place index ∷ past) end (old, before, step) close honest = (
    places_of old,
    simulates c met events past old before close honest,
    (
      step.index_is ∙ sym (length-map old.wire label_of),
      (step.repairs.entry, step.repairs.repairs),
      labels_more old.wire end.wire (Repair place, step.datagram) step.wire,
      step.receiver,
    ),
  )
  simulates c met (Retransmit ∷ events) (NoRepair ∷ past) end (old, before, (why, is)) close honest =
      (places_of old, simulates c met events past old before close honest, (why.0, ap places_of is))
  simulates c met (Ask now ∷ events) (Asked index moment ∷ past) end (old, before, (now_is, step)) close honest =
      let asks : AsksTo c old moment index end = subst (λ n. AsksTo c old n index end) (sym now_is) step in (
        places_of old,
        simulates c met events past old before close honest,
        (
          asks.index_is ∙ sym (length-map old.wire label_of),
          asks.sender,
          (asks.pairs, asked_by laws.one_nack c moment index old end asks old.receiver asks.asks, labels_more old.wire end.wire (Feedback asks.pairs, asks.datagram) asks.wire),
        ),
      )
  simulates c met (Ask now ∷ events) (NoAsk moment ∷ past) end (old, before, (now_is, why, is)) close honest =
      (places_of old, simulates c met events past old before close honest, (subst (λ n. NoneDue c.receiver old.receiver n) (sym now_is) (none_due c.receiver now old.receiver end.receiver why), ap places_of is))
  simulates c met (Deliver index now ∷ events) (Nothing ∷ past) end (old, before, (none, is)) close honest =
      (places_of old, simulates c met events past old before close honest, ap places_of is)
  simulates c met (Deliver index now ∷ events) (Delivered at label moment answer ∷ past) end (old, before, (at_is, now_is, step)) close honest =
      let rest = simulates c met events past old before close.1 honest in
      let delivers : DeliversAt c old at label moment answer end =
      subst (λ (x : ℕ × ℕ). DeliversAt c old x.0 label x.1 answer end) (λ j. (sym at_is j, sym now_is j)) step in (
        places_of old,
        rest,
        (
          label_at old.wire at (label, delivers.datagram) delivers.there,
          heard_as c met past old end at label moment answer (goes c past (places_of old) rest).0 (learnt_is c past (places_of old) rest) close.0 (wired laws.any laws.decided laws.one_nack c met events past old before) delivers,
          ap (map label_of) delivers.wire,
        ),
      )
  simulates c met (Play now ∷ events) (Played moment answer ∷ past) end (old, before, (now_is, plays, sender, wire)) close honest = (
    places_of old,
    simulates c met events past old before close honest,
    (subst (λ n. PlaysAny c.receiver.patience old.receiver n answer end.receiver) (sym now_is) plays, sender, ap (map label_of) wire),
  )
  simulates c met (Inject side datagram now ∷ events) (Injected Receiver moment answer ∷ past) end step close honest = absurd honest
  simulates c met (Inject side datagram now ∷ events) (Injected Sender moment answer ∷ past) end (old, before, (at_is, now_is, hears, wire)) close honest =
      let heard : SenderHears c old datagram.items answer end = subst (λ (e : End). HearsAt c e old datagram.items now answer end) (sym at_is) hears in
      let marks = laws.any (sending c) old.sender datagram.items heard.heard end.sender heard.hears in (
        places_of old,
        simulates c met events past old before close honest,
        (
          subst (λ (a : Answer). MarksAnything c (places_of old) a (places_of end)) (sym heard.tells) (injected_as c (places_of old) (places_of end) heard.heard marks heard.receiver),
          ap (map label_of) wire,
        ),
      )
  simulates c met (event ∷ events) (entry ∷ past) end (old, before, never) close honest = absurd never

-- A step is a function: an event has one entry, and leaves one stand.
use Rattle.std.proofs.Common.{◌≡◌, ℕ, ◌≤◌, List, [], ◌∷◌, ◌++◌, length, Option, Some, None, Result, Ok, Err, refl, sym, ap, subst, ◌∙◌}
use Rattle.std.proofs.lemmas.Option.{none-some, same_Some, slice_get_past}
use Rattle.arrayvec.specs.ArrayVec.{ArrayVec}
use Rattle.rtpwire.specs.declared.content.Content.{Content}
use Rattle.rtpwire.specs.Session.{Streams}
use Rattle.fbwire.specs.declared.fault.FeedbackFault.{FeedbackFault}
use Rattle.fbwire.specs.Nack.{NackSpells}
use Rattle.sender.specs.declared.fault.SendFault.{SendFault}
use Rattle.sender.specs.History.{SenderState}
use Rattle.sender.specs.Sending.{SendsAny}
use Rattle.sender.specs.declared.answer.Marked.{Marked as Marking}
use Rattle.sender.specs.Config.{Config as SenderConfig}
use Rattle.sender.specs.Feedback.{HearsFeedback}
use Rattle.sender.specs.Repairing.{RepairsAny}
use Rattle.receiver.specs.declared.answer.Taken.{Taken as Took}
use Rattle.receiver.specs.declared.answer.Played.{Played as Play_answer}
use Rattle.receiver.specs.declared.fault.ReceiveFault.{ReceiveFault}
use Rattle.receiver.specs.Config.{Config as Receiving}
use Rattle.receiver.specs.Window.{ReceiverState, PlaysAny}
use Rattle.receiver.specs.Heard.{Hears}
use Rattle.receiver.specs.Asks.{AsksAny}
use Rattle.world.specs.declared.event.Event.{Event}
use Rattle.world.specs.declared.event.Event.TheVariants.{Send, Repair as Retransmit, Ask, Deliver, Play, Inject}
use Rattle.world.specs.declared.event.End.{End}
use Rattle.world.specs.declared.event.End.TheVariants.{Sender, Receiver}
use Rattle.world.specs.declared.event.Label.{Label}
use Rattle.world.specs.declared.event.Label.TheVariants.{Media, Repair, Feedback}
use Rattle.world.specs.declared.event.Answer.{Answer}
use Rattle.world.specs.declared.event.Entry.{Entry}
use Rattle.world.specs.declared.event.Entry.TheVariants.{Sent, SendRefused, Repaired, NoRepair, Asked, NoAsk, Nothing, Delivered, Injected, Played}
use Rattle.world.specs.Config.{Config, sending}
use Rattle.world.specs.Labels.{end_of}
use Rattle.world.specs.Answers.{Item, WorldState, told, told_marks, nack_of, HearsAt, SendsTo, RepairsTo, AsksTo, DeliversAt, Step}
use Rattle.world.proofs.Faithful.{OneNack}

-- the same answer, and the same end or world after it
abbrev pub Same : {A B : Type 0} (a b : A) (x y : B) → Type 0
Same a b x y = (a ≡ b) × (x ≡ y)

-- the laws of the ends that this stands on
pub record Laws : Type 0 where
  pub one_sending : (s : Streams) (room : ℕ) (old : SenderState) (content : Content) (padding : ℕ) (r t : Result (ℕ × ArrayVec ℕ) SendFault) (v w : SenderState) → SendsAny s room old content padding r v → SendsAny s room old content padding t w → Same r t v w
  pub one_hearing : (room : ℕ) (c : Receiving) (old : Option ReceiverState) (octets : List ℕ) (now : ℕ) (r s : Result Took ReceiveFault) (v w : Option ReceiverState) → Hears room c old octets now r v → Hears room c old octets now s w → Same r s v w
  pub one_marking : (c : SenderConfig) (old : SenderState) (octets : List ℕ) (x y : Result Marking FeedbackFault) (v w : SenderState) → HearsFeedback c old octets x v → HearsFeedback c old octets y w → Same x y v w
  pub one_repairing : (s : Streams) (old : SenderState) (x y : Option (ℕ × ArrayVec ℕ)) (v w : SenderState) → RepairsAny s old x v → RepairsAny s old y w → Same x y v w
  pub one_asking : (c : Receiving) (now : ℕ) (old : Option ReceiverState) (r s : Option (ArrayVec ℕ)) (v w : Option ReceiverState) → AsksAny c old now r v → AsksAny c old now s w → Same r s v w
  pub one_nack : OneNack
  pub one_play : (patience now : ℕ) (old : Option ReceiverState) (r s : Play_answer) (v w : Option ReceiverState) → PlaysAny patience old now r v → PlaysAny patience old now s w → Same r s v w

same_stand : (v w : WorldState) → v.sender ≡ w.sender → v.wire ≡ w.wire → v.receiver ≡ w.receiver → v ≡ w
same_stand v w sender wire receiver = λ i. record { sender = sender i; wire = wire i; receiver = receiver i }

-- what the answer of a send holds
abbrev sent_or : ℕ × ArrayVec ℕ → Result (ℕ × ArrayVec ℕ) SendFault → ℕ × ArrayVec ℕ
sent_or x (Ok sent) = sent
sent_or x (Err fault) = x

abbrev fault_or : SendFault → Result (ℕ × ArrayVec ℕ) SendFault → SendFault
fault_or x (Ok sent) = x
fault_or x (Err fault) = fault

-- the sender
module _ (laws : Laws) (c : Config) (old : WorldState) (content : Content) (padding : ℕ) (v w : WorldState) where
  one_send : (p q i j : ℕ) (x y : Content) → x ≡ content → y ≡ content → SendsTo c old content padding p i v → SendsTo c old content padding q j w → Same (Sent p i x) (Sent q j y) v w
  one_send p q i j x y is is' a b =
      let same = laws.one_sending c.receiver.session c.history old.sender content padding (Ok (p, a.datagram)) (Ok (q, b.datagram)) v.sender w.sender a.sends b.sends in
      let both : (p, a.datagram) ≡ (q, b.datagram) = ap (sent_or (p, a.datagram)) same.0 in
      let place : p ≡ q = ap (λ (s : ℕ × ArrayVec ℕ). s.0) both in
      let index : i ≡ j = a.index_is ∙ sym b.index_is in
      let sent : x ≡ y = is ∙ sym is' in
      let item : old.wire ++ (Media p, a.datagram) ∷ [] ≡ old.wire ++ (Media q, b.datagram) ∷ [] = λ k. old.wire ++ (Media (place k), (both k).1) ∷ [] in
      (λ k. Sent (place k) (index k) (sent k), same_stand v w same.1 (a.wire ∙ item ∙ sym b.wire) (a.receiver ∙ sym b.receiver))

  not_both : (p i : ℕ) (fault : SendFault) (new : SenderState) → SendsTo c old content padding p i v → SendsAny c.receiver.session c.history old.sender content padding (Err fault) new → ⊥
  not_both p i fault new a b =
      let same = (laws.one_sending c.receiver.session c.history old.sender content padding (Ok (p, a.datagram)) (Err fault) v.sender new a.sends b).0 in cc

  one_fault : (e f : SendFault) (m n : SenderState) → SendsAny c.receiver.session c.history old.sender content padding (Err e) m → SendsAny c.receiver.session c.history old.sender content padding (Err f) n → e ≡ f
  one_fault e f m n a b = ap (fault_or e) (laws.one_sending c.receiver.session c.history old.sender content padding (Err e) (Err f) m n a b).0

-- the sender's retransmissions
module _ (laws : Laws) (c : Config) (old : WorldState) (v w : WorldState) where
  one_repair : (p q i j : ℕ) → RepairsTo c old p i v → RepairsTo c old q j w → Same (Repaired p i) (Repaired q j) v w
  one_repair p q i j a b =
      let same = laws.one_repairing c.receiver.session old.sender (Some (p, a.datagram)) (Some (q, b.datagram)) v.sender w.sender a.repairs b.repairs in
      let both : (p, a.datagram) ≡ (q, b.datagram) = same_Some (p, a.datagram) (q, b.datagram) same.0 in
      let place : p ≡ q = ap (λ (s : ℕ × ArrayVec ℕ). s.0) both in
      let index : i ≡ j = a.index_is ∙ sym b.index_is in
      let item : old.wire ++ (Repair p, a.datagram) ∷ [] ≡ old.wire ++ (Repair q, b.datagram) ∷ [] = λ k. old.wire ++ (Repair (place k), (both k).1) ∷ [] in
      (λ k. Repaired (place k) (index k), same_stand v w same.1 (a.wire ∙ item ∙ sym b.wire) (a.receiver ∙ sym b.receiver))

  no_repair_too : (p i : ℕ) (new : SenderState) → RepairsTo c old p i v → RepairsAny c.receiver.session old.sender None new → ⊥
  no_repair_too p i new a b = none-some (p, a.datagram) (sym (laws.one_repairing c.receiver.session old.sender (Some (p, a.datagram)) None v.sender new a.repairs b).0)

-- the receiver's asks
module _ (laws : Laws) (c : Config) (old : WorldState) (now : ℕ) (v w : WorldState) where
  one_ask : (i j m n : ℕ) → m ≡ now → n ≡ now → AsksTo c old now i v → AsksTo c old now j w → Same (Asked i m) (Asked j n) v w
  one_ask i j m n is is' a b =
      let same = laws.one_asking c.receiver now old.receiver (Some a.datagram) (Some b.datagram) v.receiver w.receiver a.asks b.asks in
      let octets : a.datagram ≡ b.datagram = same_Some a.datagram b.datagram same.0 in
      let nacks = laws.one_nack b.datagram.items (nack_of c.receiver.session a.pairs.items) (nack_of c.receiver.session b.pairs.items) (subst (λ (d : ArrayVec ℕ). NackSpells (nack_of c.receiver.session a.pairs.items) d.items) octets a.spells) b.spells in
      let pairs : a.pairs ≡ b.pairs = λ k. record { items = (nacks k).pairs } in
      let index : i ≡ j = a.index_is ∙ sym b.index_is in
      let moment : m ≡ n = is ∙ sym is' in
      let item : old.wire ++ (Feedback a.pairs, a.datagram) ∷ [] ≡ old.wire ++ (Feedback b.pairs, b.datagram) ∷ [] = λ k. old.wire ++ (Feedback (pairs k), octets k) ∷ [] in
      (λ k. Asked (index k) (moment k), same_stand v w (a.sender ∙ sym b.sender) (a.wire ∙ item ∙ sym b.wire) same.1)

  no_ask_too : (i : ℕ) (new : Option ReceiverState) → AsksTo c old now i v → AsksAny c.receiver old.receiver now None new → ⊥
  no_ask_too i new a b = none-some a.datagram (sym (laws.one_asking c.receiver now old.receiver (Some a.datagram) None v.receiver new a.asks b).0)

module _ (laws : Laws) where
  one_heard : (c : Config) (end : End) (old : WorldState) (octets : List ℕ) (now : ℕ) (a b : Answer) (v w : WorldState) → HearsAt c end old octets now a v → HearsAt c end old octets now b w → v.wire ≡ w.wire → Same a b v w
  one_heard c Sender old octets now a b v w x y wire =
      let same = laws.one_marking (sending c) old.sender octets x.heard y.heard v.sender w.sender x.hears y.hears in
      (x.tells ∙ ap told_marks same.0 ∙ sym y.tells, same_stand v w same.1 wire (x.receiver ∙ sym y.receiver))
  one_heard c Receiver old octets now a b v w x y wire =
      let same = laws.one_hearing c.window c.receiver old.receiver octets now x.heard y.heard v.receiver w.receiver x.hears y.hears in
      (x.tells ∙ ap told same.0 ∙ sym y.tells, same_stand v w (x.sender ∙ sym y.sender) wire same.1)

  -- a delivery
  module _ (c : Config) (old : WorldState) (index now : ℕ) (v w : WorldState) where
    one_delivery : (i j : ℕ) (k l : Label) (m n : ℕ) (x y : Answer) → i ≡ index → j ≡ index → m ≡ now → n ≡ now → DeliversAt c old index k now x v → DeliversAt c old index l now y w →
        Same (Delivered i k m x) (Delivered j l n y) v w
    one_delivery i j k l m n x y at at' is is' a b =
        let item : (k, a.datagram) ≡ (l, b.datagram) = same_Some (k, a.datagram) (l, b.datagram) (sym a.there ∙ b.there) in
        let label : k ≡ l = ap (λ (z : Item). z.0) item in
        let heard =
        one_heard c (end_of k) old a.datagram.items now x y v w a.hears
        (subst (λ (z : Item). HearsAt c (end_of z.0) old z.1.items now y w) (sym item) b.hears) (a.wire ∙ sym b.wire) in
        let place : i ≡ j = at ∙ sym at' in
        let moment : m ≡ n = is ∙ sym is' in
        let answer : x ≡ y = heard.0 in
        (λ t. Delivered (place t) (label t) (moment t) (answer t), heard.1)

    nothing_there : (k : Label) (x : Answer) → DeliversAt c old index k now x v → length old.wire ≤ index → ⊥
    nothing_there k x a past = none-some (k, a.datagram) (sym (slice_get_past old.wire index past) ∙ a.there)

  pub one_step : (c : Config) (old : WorldState) (event : Event) (d e : Entry) (v w : WorldState) → Step c old event d v → Step c old event e w → Same d e v w
  one_step c old (Send content padding) (Sent p i x) (Sent q j y) v w (is, a) (is', b) = one_send laws c old content padding v w p q i j x y is is' a b
  one_step c old (Send content padding) (Sent p i x) (SendRefused f) v w (is, a) (why, same) = absurd (not_both laws c old content padding v w p i f w.sender a why)
  one_step c old (Send content padding) (SendRefused f) (Sent q j y) v w (why, same) (is, b) = absurd (not_both laws c old content padding w v q j f v.sender b why)
  one_step c old (Send content padding) (SendRefused f) (SendRefused g) v w (why, same) (why', same') =
      (ap (λ (x : SendFault). SendRefused x) (one_fault laws c old content padding v w f g v.sender w.sender why why'), same ∙ sym same')
  one_step c old Retransmit (Repaired p i) (Repaired q j) v w a b = one_repair laws c old v w p q i j a b
  one_step c old Retransmit (Repaired p i) NoRepair v w a (why, same) = absurd (no_repair_too laws c old v w p i w.sender a why)
  one_step c old Retransmit NoRepair (Repaired q j) v w (why, same) b = absurd (no_repair_too laws c old w v q j v.sender b why)
  one_step c old Retransmit NoRepair NoRepair v w (why, same) (why', same') = (refl, same ∙ sym same')
  one_step c old (Ask now) (Asked i m) (Asked j n) v w (is, a) (is', b) = one_ask laws c old now v w i j m n is is' a b
  one_step c old (Ask now) (Asked i m) (NoAsk n) v w (is, a) (is', why, same) = absurd (no_ask_too laws c old now v w i w.receiver a why)
  one_step c old (Ask now) (NoAsk m) (Asked j n) v w (is, why, same) (is', b) = absurd (no_ask_too laws c old now w v j v.receiver b why)
  one_step c old (Ask now) (NoAsk m) (NoAsk n) v w (is, why, same) (is', why', same') = (ap (λ t. NoAsk t) (is ∙ sym is'), same ∙ sym same')
  one_step c old (Deliver index now) Nothing Nothing v w (past, same) (past', same') = (refl, same ∙ sym same')
  one_step c old (Deliver index now) Nothing (Delivered j l n y) v w (past, same) (at, is, b) = absurd (nothing_there c old index now w v l y b past)
  one_step c old (Deliver index now) (Delivered i k m x) Nothing v w (at, is, a) (past, same) = absurd (nothing_there c old index now v w k x a past)
  one_step c old (Deliver index now) (Delivered i k m x) (Delivered j l n y) v w (at, is, a) (at', is', b) = one_delivery c old index now v w i j k l m n x y at at' is is' a b
  one_step c old (Play now) (Played m x) (Played n y) v w (is, plays, sender, wire) (is', plays', sender', wire') =
      let same = laws.one_play c.receiver.patience now old.receiver x y v.receiver w.receiver plays plays' in
      let moment : m ≡ n = is ∙ sym is' in
      let answer : x ≡ y = same.0 in
      (λ t. Played (moment t) (answer t), same_stand v w (sender ∙ sym sender') (wire ∙ sym wire') same.1)
  one_step c old (Inject end datagram now) (Injected d m x) (Injected e n y) v w (at, is, hears, wire) (at', is', hears', wire') =
      let same = one_heard c end old datagram.items now x y v w hears hears' (wire ∙ sym wire') in
      let side : d ≡ e = at ∙ sym at' in
      let moment : m ≡ n = is ∙ sym is' in
      let answer : x ≡ y = same.0 in
      (λ t. Injected (side t) (moment t) (answer t), same.1)
  -- no event has another entry
  one_step c old (Send content padding) (Sent p i x) e v w a never = absurd never
  one_step c old (Send content padding) (SendRefused f) e v w a never = absurd never
  one_step c old Retransmit (Repaired p i) e v w a never = absurd never
  one_step c old Retransmit NoRepair e v w a never = absurd never
  one_step c old (Ask now) (Asked i m) e v w a never = absurd never
  one_step c old (Ask now) (NoAsk m) e v w a never = absurd never
  one_step c old (Deliver index now) Nothing e v w a never = absurd never
  one_step c old (Deliver index now) (Delivered i k m x) e v w a never = absurd never
  one_step c old (Play now) (Played m x) e v w a never = absurd never
  one_step c old (Inject end datagram now) (Injected d m x) e v w a never = absurd never
  one_step c old event d e v w never b = absurd never

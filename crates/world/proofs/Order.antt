-- Every log is rising and final, whatever was injected.
use Rattle.std.proofs.Common.{◌≡◌, ℕ, ◌+◌, ◌-◌, ◌<◌, List, [], ◌∷◌, take, Option, Some, None, IsSomeAnd, Result, Ok, Err, refl, sym, ap, subst, ◌∙◌, ⊎_elim, inl, inr, arith}
use Rattle.arrayvec.specs.ArrayVec.{ArrayVec}
use Rattle.rtpwire.specs.declared.content.Content.{Content}
use Rattle.fbwire.specs.declared.fault.FeedbackFault.{FeedbackFault}
use Rattle.stores.specs.Asking.{longest_ask}
use Rattle.sender.specs.declared.answer.Marked.{Marked as Marking}
use Rattle.receiver.specs.declared.answer.Taken.{Taken as Took}
use Rattle.receiver.specs.declared.answer.Played.{Played as Play_answer}
use Rattle.receiver.specs.declared.answer.Played.TheVariants.{Packet, Gap, Wait}
use Rattle.receiver.specs.declared.fault.ReceiveFault.{ReceiveFault}
use Rattle.receiver.specs.Config.{Config as Receiving}
use Rattle.receiver.specs.Window.{ReceiverState, cursor_after, AnswersPlace, StartsAt, PlaysAny}
use Rattle.receiver.specs.declared.stream.Stream.{Stream}
use Rattle.receiver.specs.declared.stream.Stream.TheVariants.{Media, Repair, Candidate}
use Rattle.receiver.specs.Heard.{AnswersIn, TakesNumber, Hears, TakesOrRefuses}
use Rattle.receiver.specs.Asks.{Asks, AsksAny}
use Rattle.world.specs.declared.event.Event.{Event}
use Rattle.world.specs.declared.event.Event.TheVariants.{Send, Repair as Retransmit, Ask, Deliver, Play, Inject}
use Rattle.world.specs.declared.event.End.{End}
use Rattle.world.specs.declared.event.End.TheVariants.{Sender, Receiver}
use Rattle.world.specs.declared.event.Label.{Label}
use Rattle.world.specs.declared.event.Answer.{Answer}
use Rattle.world.specs.declared.event.Answer.TheVariants.{Taken, Refused, Marked, FeedbackRefused}
use Rattle.world.specs.declared.event.Entry.{Entry}
use Rattle.world.specs.declared.event.Entry.TheVariants.{Sent, SendRefused, Repaired, NoRepair, Asked, NoAsk, Nothing, Delivered, Injected, Played}
use Rattle.world.specs.Config.{Config}
use Rattle.world.specs.Labels.{end_of}
use Rattle.world.specs.Answers.{WorldState, new_stand, told, told_marks, HearsAt, Answers}
use Rattle.world.specs.Reading.{cursor_of, IsGone, OverrunIs, IsRising, IsFinal}

-- the receiver's cursor is the log's, and what is gone lies below it
abbrev pub Orders : List Entry → Option ReceiverState → Type 0
Orders past None = (cursor_of past ≡ None) × ((k : ℕ) → IsGone past k → ⊥)
Orders past (Some w) = (cursor_of past ≡ Some w.cursor) × ((k : ℕ) → IsGone past k → k < w.cursor)

pub record Ordered (c : Config) (past : List Entry) (r : Option ReceiverState) : Type 0 where
  pub orders : Orders past r
  pub rising : IsRising c past
  pub final : IsFinal past

-- an entry that says nothing of the order
same_orders : (past past' : List Entry) → cursor_of past' ≡ cursor_of past → ((k : ℕ) → IsGone past' k → IsGone past k) → (r : Option ReceiverState) → Orders past r → Orders past' r
same_orders past past' cursor gone None orders = (cursor ∙ orders.0, λ k g. orders.1 k (gone k g))
same_orders past past' cursor gone (Some w) orders = (cursor ∙ orders.0, λ k g. orders.1 k (gone k g))

-- a refusal, which leaves the receiver as it was
refusal : (c : Config) (past : List Entry) (end : End) (now : ℕ) (fault : ReceiveFault) (old new : Option ReceiverState) → new ≡ old → Ordered c past old → Ordered c (Injected end now (Refused fault) ∷ past) new
refusal c past end now fault old new same was =
    subst (λ (x : Option ReceiverState). Ordered c (Injected end now (Refused fault) ∷ past) x) (sym same)
    (record { orders = same_orders past (Injected end now (Refused fault) ∷ past) refl (λ k g. g) old was.orders; rising = was.rising; final = was.final })

overrun_is : (c : Config) (past : List Entry) (cursor place overrun : ℕ) → cursor_of past ≡ Some cursor → overrun ≡ cursor_after c.window cursor place - cursor → OverrunIs c (cursor_of past) place overrun
overrun_is c past cursor place overrun at is =
    let e : overrun ≡ place + 1 - c.window - cursor = omega arith in
    subst (λ o. OverrunIs c o place overrun) (sym at) e

module _ (c : Config) (past : List Entry) (end : End) (now : ℕ) where
  placed : (place : ℕ) (content : Content) (taken : Took) (old : ReceiverState) (new : Option ReceiverState) →
      AnswersPlace c.window old place content now (Ok taken) new → Ordered c past (Some old) → Ordered c (Injected end now (Taken taken) ∷ past) new
  placed place content taken old None (at, above, free, over, none) was = absurd none
  placed place content taken old (Some w) (at, above, free, over, taking) was =
      let orders = was.orders in
      record {
        orders = (
          grind (arith, orders.0, taking.cursor),
          λ k g. ⊎_elim (λ x. let y = rw orders.0 at x in omega (arith, taking.cursor, y)) (λ gone. let h = orders.1 k gone in omega (arith, taking.cursor, h)) g,
        );
        rising = (overrun_is c past old.cursor taken.place taken.overrun orders.0 (omega (arith, at, over)), was.rising);
        final = was.final;
      }

  started : (place : ℕ) (content : Content) (taken : Took) (new : Option ReceiverState) →
      StartsAt place content (Ok taken) new → Ordered c past None → Ordered c (Injected end now (Taken taken) ∷ past) new
  started place content taken None (at, over, none) was = absurd none
  started place content taken (Some w) (at, over, starting) was =
      let orders = was.orders in
      record {
        orders = (
          grind (arith, orders.0, starting.cursor, at),
          λ k g. ⊎_elim (λ x. let y = rw orders.0 at x in absurd y) (λ gone. absurd (orders.1 k gone)) g,
        );
        rising = (subst (λ x. OverrunIs c x taken.place taken.overrun) (sym orders.0) over, was.rising);
        final = was.final;
      }

  -- what was learnt says nothing of the order
  learns : (old : ReceiverState) (learnt : Option ℕ) → Ordered c past (Some old) → Ordered c past (Some (record old { learnt = learnt }))
  learns old learnt was = record { orders = was.orders; rising = was.rising; final = was.final }

  placed_in : (stream : Stream) (place : ℕ) (content : Content) (taken : Took) (old : ReceiverState) (new : Option ReceiverState) →
      AnswersIn c.window stream old place content now (Ok taken) new → Ordered c past (Some old) → Ordered c (Injected end now (Taken taken) ∷ past) new
  placed_in Media place content taken old new step was = placed place content taken old new step was
  placed_in Repair place content taken old new step was = placed place content taken old new step was
  placed_in (Candidate ssrc) place content taken old new (asked, step) was = placed place content taken (record old { learnt = Some ssrc }) new step (learns old (Some ssrc) was)

  numbered : (stream : Stream) (seq : ℕ) (content : Content) (taken : Took) (old new : Option ReceiverState) →
      TakesNumber c.window stream old seq content now (Ok taken) new → Ordered c past old → Ordered c (Injected end now (Taken taken) ∷ past) new
  numbered Media seq content taken None new step was = started (65536 + seq) content taken new step was
  numbered Repair seq content taken None new (is, same) was = absurd cc
  numbered (Candidate ssrc) seq content taken None new (is, same) was = absurd cc
  numbered stream seq content taken (Some old) new (inl (far, is, same)) was = absurd cc
  numbered stream seq content taken (Some old) new (inr (inl (past_end, is, same))) was = absurd cc
  numbered stream seq content taken (Some old) new (inr (inr (place, near, fits, step))) was = placed_in stream place content taken old new step was

  -- what a receiver heard, whatever it was
  heard_any : (octets : List ℕ) (heard : Result Took ReceiveFault) (old new : Option ReceiverState) →
      TakesOrRefuses c.window c.receiver old octets now heard new → Ordered c past old → Ordered c (Injected end now (told heard) ∷ past) new
  heard_any octets (Ok taken) old new step was = numbered step.stream step.seq step.content taken old new step.takes was
  heard_any octets (Err fault) old new same was = refusal c past end now fault old new same was

-- a delivery counts as an injection of the same answer
as_delivered : (c : Config) (past : List Entry) (end : End) (index now : ℕ) (label : Label) (answer : Answer) (r : Option ReceiverState) →
    Ordered c (Injected end now answer ∷ past) r → Ordered c (Delivered index label now answer ∷ past) r
as_delivered c past end index now label (Taken taken) r was =
    record { orders = same_orders (Injected end now (Taken taken) ∷ past) (Delivered index label now (Taken taken) ∷ past) refl (λ k g. g) r was.orders; rising = was.rising; final = was.final }
as_delivered c past end index now label (Refused fault) r was =
    record { orders = same_orders (Injected end now (Refused fault) ∷ past) (Delivered index label now (Refused fault) ∷ past) refl (λ k g. g) r was.orders; rising = was.rising; final = was.final }
as_delivered c past end index now label (Marked marked) r was =
    record { orders = same_orders (Injected end now (Marked marked) ∷ past) (Delivered index label now (Marked marked) ∷ past) refl (λ k g. g) r was.orders; rising = was.rising; final = was.final }
as_delivered c past end index now label (FeedbackRefused fault) r was =
    record { orders = same_orders (Injected end now (FeedbackRefused fault) ∷ past) (Delivered index label now (FeedbackRefused fault) ∷ past) refl (λ k g. g) r was.orders; rising = was.rising; final = was.final }

-- what the sender answers says nothing of the order
marked : (c : Config) (past : List Entry) (end : End) (now : ℕ) (heard : Result Marking FeedbackFault) (r : Option ReceiverState) → Ordered c past r → Ordered c (Injected end now (told_marks heard) ∷ past) r
marked c past end now (Ok marking) r was =
    record { orders = same_orders past (Injected end now (Marked marking) ∷ past) refl (λ k g. g) r was.orders; rising = was.rising; final = was.final }
marked c past end now (Err fault) r was =
    record { orders = same_orders past (Injected end now (FeedbackRefused fault) ∷ past) refl (λ k g. g) r was.orders; rising = was.rising; final = was.final }

played : (c : Config) (past : List Entry) (now : ℕ) (answer : Play_answer) (old new : Option ReceiverState) →
    PlaysAny c.receiver.patience old now answer new → Ordered c past old → Ordered c (Played now answer ∷ past) new
played c past now Wait None new is was =
    subst (λ (x : Option ReceiverState). Ordered c (Played now Wait ∷ past) x) (sym is) (record { orders = was.orders; rising = was.rising; final = was.final })
played c past now (Packet place content) None new never was = absurd never
played c past now (Gap place) None new never was = absurd never
played c past now Wait (Some old) new (free, impatient, is) was =
    subst (λ (x : Option ReceiverState). Ordered c (Played now Wait ∷ past) x) (sym is) (record { orders = was.orders; rising = was.rising; final = was.final })
played c past now (Packet place content) (Some old) None (at, held, none) was = absurd none
played c past now (Packet place content) (Some old) (Some w) (at, held, pass) was =
    let orders = was.orders in
    record {
      orders = (grind (arith, orders.0, pass.cursor), λ k g. let h = orders.1 k g in omega (arith, pass.cursor, h));
      rising = (orders.0 ∙ ap (λ x. Some x) (sym at), was.rising);
      final = (λ g. let h = orders.1 place g in omega (arith, h), was.final);
    }
played c past now (Gap place) (Some old) None (at, free, cause, none) was = absurd none
played c past now (Gap place) (Some old) (Some w) (at, free, cause, pass) was =
    let orders = was.orders in
    record {
      orders = (
        grind (arith, orders.0, pass.cursor),
        λ k g. ⊎_elim (λ (x : place ≡ k). omega (arith, pass.cursor)) (λ gone. let h = orders.1 k gone in omega (arith, pass.cursor, h)) g,
      );
      rising = (orders.0 ∙ ap (λ x. Some x) (sym at), was.rising);
      final = was.final;
    }

-- an ask leaves the cursor
asked : (c : Config) (past : List Entry) (covered : List ℕ) (now : ℕ) (old : ReceiverState) (new : Option ReceiverState) → IsSomeAnd new (Asks old covered now) → Ordered c past (Some old) → Ordered c past new
asked c past covered now old None none was = absurd none
asked c past covered now old (Some w) asks was =
    let orders = was.orders in
    record { orders = (grind (arith, orders.0, asks.cursor), λ k g. let h = orders.1 k g in omega (arith, asks.cursor, h)); rising = was.rising; final = was.final }

asked_any : (c : Config) (past : List Entry) (now : ℕ) (datagram : ArrayVec ℕ) (old new : Option ReceiverState) → AsksAny c.receiver old now (Some datagram) new → Ordered c past old → Ordered c past new
asked_any c past now datagram None new (none, is) was = absurd cc
asked_any c past now datagram (Some old) new asks was =
    asked c past (take asks.answers.1.asked.count (take longest_ask asks.due)) now old new asks.answers.1.asked.asks was

-- an entry of the sender's, or none, leaves the receiver as it was
untouched : (c : Config) (past : List Entry) (old new : Option ReceiverState) → new ≡ old → Ordered c past old → Ordered c past new
untouched c past old new is was = subst (λ (x : Option ReceiverState). Ordered c past x) (sym is) was

receiver_of : (v w : WorldState) → v ≡ w → v.receiver ≡ w.receiver
receiver_of v w e = ap (λ (x : WorldState). x.receiver) e

-- what the receiver answers to octets, by its law
abbrev pub AnyHearing : Type 0
AnyHearing =
    (room : ℕ) (c : Receiving) (old : Option ReceiverState) (octets : List ℕ) (now : ℕ) (answer : Result Took ReceiveFault) (new : Option ReceiverState) → Hears room c old octets now answer new → TakesOrRefuses room c old octets now answer new

module _ (any : AnyHearing) where
  heard : (c : Config) (past : List Entry) (end : End) (octets : List ℕ) (now : ℕ) (answer : Answer) (old new : WorldState) →
      HearsAt c end old octets now answer new → Ordered c past old.receiver → Ordered c (Injected end now answer ∷ past) new.receiver
  heard c past Sender octets now answer old new h was =
      subst (λ (a : Answer). Ordered c (Injected Sender now a ∷ past) new.receiver) (sym h.tells)
      (marked c past Sender now h.heard new.receiver (untouched c past old.receiver new.receiver h.receiver was))
  heard c past Receiver octets now answer old new h was =
      subst (λ (a : Answer). Ordered c (Injected Receiver now a ∷ past) new.receiver) (sym h.tells)
      (heard_any c past Receiver now octets h.heard old.receiver new.receiver (any c.window c.receiver old.receiver octets now h.heard new.receiver h.hears) was)

  pub ordered : (c : Config) (events : List Event) (past : List Entry) (end : WorldState) → Answers c events past end → Ordered c past end.receiver
  ordered c [] [] end is = untouched c [] None end.receiver (receiver_of end (new_stand c) is) (record { orders = (refl, λ k g. g); rising = tt; final = tt })
  ordered c [] (entry ∷ past) end never = absurd never
  ordered c (event ∷ events) [] end never = absurd never
  ordered c (Send content padding ∷ events) (Sent place index sent ∷ past) end (old, before, (same, sends)) =
      let rest = untouched c past old.receiver end.receiver sends.receiver (ordered c events past old before) in
      record { orders = same_orders past (Sent place index sent ∷ past) refl (λ k g. g) end.receiver rest.orders; rising = rest.rising; final = rest.final }
  ordered c (Send content padding ∷ events) (SendRefused fault ∷ past) end (old, before, (why, is)) =
      let rest = untouched c past old.receiver end.receiver (receiver_of end old is) (ordered c events past old before) in
      record { orders = same_orders past (SendRefused fault ∷ past) refl (λ k g. g) end.receiver rest.orders; rising = rest.rising; final = rest.final }
  ordered c (Retransmit ∷ events) (Repaired place index ∷ past) end (old, before, step) =
      let rest = untouched c past old.receiver end.receiver step.receiver (ordered c events past old before) in
      record { orders = same_orders past (Repaired place index ∷ past) refl (λ k g. g) end.receiver rest.orders; rising = rest.rising; final = rest.final }
  ordered c (Retransmit ∷ events) (NoRepair ∷ past) end (old, before, (why, is)) =
      let rest = untouched c past old.receiver end.receiver (receiver_of end old is) (ordered c events past old before) in
      record { orders = same_orders past (NoRepair ∷ past) refl (λ k g. g) end.receiver rest.orders; rising = rest.rising; final = rest.final }
  ordered c (Ask now ∷ events) (Asked index moment ∷ past) end (old, before, (now_is, step)) =
      let rest = asked_any c past now step.datagram old.receiver end.receiver step.asks (ordered c events past old before) in
      record { orders = same_orders past (Asked index moment ∷ past) refl (λ k g. g) end.receiver rest.orders; rising = rest.rising; final = rest.final }
  ordered c (Ask now ∷ events) (NoAsk moment ∷ past) end (old, before, (now_is, why, is)) =
      let rest = untouched c past old.receiver end.receiver (receiver_of end old is) (ordered c events past old before) in
      record { orders = same_orders past (NoAsk moment ∷ past) refl (λ k g. g) end.receiver rest.orders; rising = rest.rising; final = rest.final }
  ordered c (Deliver index now ∷ events) (Nothing ∷ past) end (old, before, (none, is)) =
      let rest = untouched c past old.receiver end.receiver (receiver_of end old is) (ordered c events past old before) in
      record { orders = same_orders past (Nothing ∷ past) refl (λ k g. g) end.receiver rest.orders; rising = rest.rising; final = rest.final }
  ordered c (Deliver index now ∷ events) (Delivered at label moment answer ∷ past) end (old, before, (at_is, now_is, delivers)) =
      as_delivered c past (end_of label) at moment label answer end.receiver
      (heard c past (end_of label) delivers.datagram.items moment answer old end
      (subst (λ n. HearsAt c (end_of label) old delivers.datagram.items n answer end) (sym now_is) delivers.hears) (ordered c events past old before))
  ordered c (Play now ∷ events) (Played moment answer ∷ past) end (old, before, (now_is, plays, sender, wire)) =
      played c past moment answer old.receiver end.receiver
      (subst (λ n. PlaysAny c.receiver.patience old.receiver n answer end.receiver) (sym now_is) plays) (ordered c events past old before)
  ordered c (Inject side datagram now ∷ events) (Injected at moment answer ∷ past) end (old, before, (at_is, now_is, hears, wire)) =
      heard c past at datagram.items moment answer old end
      (subst (λ (x : End × ℕ). HearsAt c x.0 old datagram.items x.1 answer end) (λ j. (sym at_is j, sym now_is j)) hears) (ordered c events past old before)
  ordered c (event ∷ events) (entry ∷ past) end (old, before, never) = absurd never

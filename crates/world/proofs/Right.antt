-- A run of the place world is right and justified, and refuses lawfully.
use Rattle.std.proofs.Common.{◌≡◌, ◌⊎◌, ℕ, ◌+◌, ◌-◌, ◌*◌, ◌≤◌, Bool, true, false, IsTrue, List, [], ◌∷◌, take, Option, Some, None, if◌then◌else◌, Result, Ok, Err, IsSome, IsSomeAnd, ⊎_elim, refl, sym, ap, subst, ◌∙◌, inl, inr, arith}
use Rattle.std.proofs.lemmas.Option.{none-some, same_Some}
use Rattle.arrayvec.specs.ArrayVec.{ArrayVec}
use Rattle.fbwire.specs.declared.nack.Pair.{Pair}
use Rattle.sender.specs.declared.answer.Marked.{Marked as Marking}
use Rattle.places.specs.Place.{number}
use Rattle.places.specs.declared.nearness.PlaceFault.TheVariants.{Far}
use Rattle.rtpwire.specs.declared.content.Content.{Content}
use Rattle.stores.specs.declared.slot.PutFault.TheVariants.{Late, Duplicate}
use Rattle.stores.specs.Asking.{longest_ask}
use Rattle.receiver.specs.declared.answer.Taken.{Taken as Took}
use Rattle.receiver.specs.declared.answer.Played.{Played as Play_answer}
use Rattle.receiver.specs.declared.answer.Played.TheVariants.{Packet, Gap, Wait}
use Rattle.receiver.specs.declared.fault.ReceiveFault.{ReceiveFault}
use Rattle.receiver.specs.declared.fault.ReceiveFault.TheVariants as refused
use Rattle.receiver.specs.Window.{Missed, ReceiverState, StartsAt, AnswersPlace, HasPassed, PlaysAny}
use Rattle.receiver.specs.declared.stream.Stream.{Stream}
use Rattle.receiver.specs.declared.stream.Stream.TheVariants as streams
use Rattle.receiver.specs.Streams.{learnt_by}
use Rattle.receiver.specs.Heard.{AnswersIn}
use Rattle.receiver.specs.Asks.{Asks}
use Rattle.world.specs.declared.event.End.TheVariants.{Sender, Receiver}
use Rattle.world.specs.declared.event.Label.{Label}
use Rattle.world.specs.declared.event.Label.TheVariants.{Media, Repair, Feedback}
use Rattle.world.specs.declared.event.Answer.{Answer}
use Rattle.world.specs.declared.event.Answer.TheVariants.{Taken, Refused, Marked, FeedbackRefused}
use Rattle.world.specs.declared.event.Entry.{Entry}
use Rattle.world.specs.declared.event.Entry.TheVariants.{Sent, SendRefused, Repaired, NoRepair, Asked, NoAsk, Nothing, Delivered, Injected, Played}
use Rattle.world.specs.Config.{Config}
use Rattle.world.specs.Labels.{place_of}
use Rattle.world.specs.Answers.{told}
use Rattle.world.specs.Reading.{contents, WasSent, cursor_of, cursor_from}
use Rattle.world.specs.Reach.{highest_taken, shift_of, first_or, or_zero, greater, Reaches, IsReached}
use Rattle.world.specs.Right.{IsRight}
use Rattle.world.specs.Justified.{noticed_of, earlier_or, IsOver, IsWaitFor, IsJustified}
use Rattle.world.specs.Lawful.{IsRefusedLawfully}
use Rattle.world.specs.PlaceRun.{PlaceWorld, new_places, repair_in, stream_in, ReceivesLabel, HearsFeedbackOf, HearsPlace, MarksAnything, AsksAnyBy, PlaceRun}
use Rattle.world.proofs.Faithful.{get_front}
use Rattle.world.proofs.Kept.{noticed_in, Kept, KeptBy, Keeps, starts, takes, refused as refused_one, passes, learns, asks, sends}

-- a product and no record, so that an entry that has no part in it leaves it as it is
abbrev pub Plays : Config → List Entry → Type 0
Plays c past = IsRight c past × IsJustified c past × IsRefusedLawfully c past

-- the window beside the log, and what was played
abbrev pub KeepsAndPlays : Config → List Entry → Option ReceiverState → Type 0
KeepsAndPlays c past r = Keeps c past r × Plays c past

keeps_as : (c : Config) (past : List Entry) (old new : Option ReceiverState) → new ≡ old → Keeps c past old → Keeps c past new
keeps_as c past old new is kept = subst (λ (r : Option ReceiverState). Keeps c past r) (sym is) kept

is_held : (o : Option Content) → IsSome o → o ≡ None → ⊥
is_held None held e = absurd cc
is_held (Some content) held e = none-some content (sym e)

-- an SSRC is to be learnt only by a receiver that learns
abbrev CanLearn : Config → Stream → Type 0
CanLearn c streams.Media = Unit {0}
CanLearn c streams.Repair = Unit {0}
CanLearn c (streams.Candidate ssrc) = IsTrue c.receiver.learns

can_learn_in : (c : Config) (learnt : Option ℕ) (b : Bool) → (IsTrue b → IsTrue c.receiver.learns) → CanLearn c (repair_in c.receiver (if b then learnt else Some c.receiver.session.repair_ssrc))
can_learn_in c None true so = so refl
can_learn_in c (Some known) true so = tt
can_learn_in c learnt false so = tt

can_learn : (c : Config) (r : Option ReceiverState) (label : Label) → CanLearn c (stream_in c.receiver r label)
can_learn c r (Media place) = tt
can_learn c r (Repair place) = can_learn_in c (learnt_by r) c.receiver.learns (λ x. x)
can_learn c r (Feedback pairs) = tt

-- A packet of the sender's place p is delivered.
module _ (c : Config) (past : List Entry) (i : ℕ) (label : Label) (p now : ℕ) (at_place : place_of label ≡ Some p) where
  -- what is kept after it was taken, the receiver's place being this
  abbrev KeptAfter : Option ℕ → (place overrun : ℕ) → ReceiverState → Type 0
  KeptAfter o place overrun w =
      Kept (first_or (highest_taken past) (or_zero o - place) (shift_of past)) (cursor_from (cursor_of past) place overrun) (greater (highest_taken past) o) (WasSent c past)
      (λ k. ((o ≡ Some k) × Unit {0}) ⊎ IsReached past k) (λ k. earlier_or (noticed_of past k) k place now) w

  took : (taken : Took) (place : ℕ) (w : ReceiverState) → taken.place ≡ place → KeptAfter (Some p) place taken.overrun w → KeptBy c (Delivered i label now (Taken taken) ∷ past) w
  took taken place w same kept = subst (λ (x : Option ℕ × ℕ). KeptAfter x.0 x.1 taken.overrun w) (λ j. (sym at_place j, sym same j)) kept

  -- the shift of a log, where it is known
  shifted : (place overrun : ℕ) (w : ReceiverState) (s : ℕ) → first_or (highest_taken past) (p - place) (shift_of past) ≡ s →
      Kept s (cursor_from (cursor_of past) place overrun) (greater (highest_taken past) (Some p)) (WasSent c past) (λ k. ((Some p ≡ Some k) × Unit {0}) ⊎ IsReached past k)
      (λ k. earlier_or (noticed_of past k) k place now) w → KeptAfter (Some p) place overrun w
  shifted place overrun w s is kept =
      subst
      (λ n. Kept n (cursor_from (cursor_of past) place overrun) (greater (highest_taken past) (Some p)) (WasSent c past) (λ k. ((Some p ≡ Some k) × Unit {0}) ⊎ IsReached past k) (λ k. earlier_or (noticed_of past k) k place now) w)
      (sym is) kept

  -- it is refused, and no place that can still be played was missed by that
  refuses : (fault : ReceiveFault) (old : ReceiverState) (new : Option ReceiverState) → new ≡ Some old → KeptBy c past old →
      ((k : ℕ) → old.cursor ≤ k → p ≡ k + shift_of past → Reaches (highest_taken past) (Refused fault) → old.held k ≡ None → ⊥) → Keeps c (Delivered i label now (Refused fault) ∷ past) new
  refuses fault old new is kept because =
      keeps_as c (Delivered i label now (Refused fault) ∷ past) (Some old) new is
      (refused_one (shift_of past) (cursor_of past) (highest_taken past) (WasSent c past) (IsReached past) (noticed_of past) old (λ k. (place_of label ≡ Some k) × Reaches (highest_taken past) (Refused fault)) kept
      (λ k h x none. because k h (same_Some p (k + shift_of past) (sym at_place ∙ x.0)) x.1 none))

  -- at a place of the receiver's own
  placed : (own : ℕ) (heard : Result Took ReceiveFault) (old : ReceiverState) (new : Option ReceiverState) (content : Content) →
      own + shift_of past ≡ p → WasSent c past p content → AnswersPlace c.window old own content now heard new → KeptBy c past old → Plays c past → KeepsAndPlays c (Delivered i label now (told heard) ∷ past) new
  placed own (Ok taken) old None content at was (same, above, free, over, none) kept plays = absurd none
  placed own (Ok taken) old (Some w) content at was (same, above, free, over, taking) kept plays =
      let step = takes (shift_of past) (cursor_of past) (highest_taken past) (WasSent c past) (IsReached past) (noticed_of past) c.window old w p own now taken.overrun content kept at was above free over taking in
      (took taken own w same (shifted own taken.overrun w (shift_of past) (ap (λ h. first_or h (p - own) (shift_of past)) kept.highest) step), (plays.0, plays.1, (tt, plays.2)))
  placed own (Err (refused.Put Late)) old new content at was (under, is) kept plays =
      (refuses (refused.Put Late) old new is kept (λ k h here reaches none. omega (arith, here, at, under)), (plays.0, plays.1, (inr (inr (inl refl)), plays.2)))
  placed own (Err (refused.Put Duplicate)) old new content at was (above, held, is) kept plays = (
    refuses (refused.Put Duplicate) old new is kept (λ k h here reaches none. let same : own ≡ k = omega (arith, here, at) in is_held (old.held own) held (rw same none)),
    (plays.0, plays.1, (inr (inr (inr (inl refl))), plays.2)),
  )
  placed own (Err fault) old new content at was never kept plays = absurd never

  -- in its stream
  placed_in : (stream : Stream) → CanLearn c stream → (own : ℕ) (heard : Result Took ReceiveFault) (old : ReceiverState) (new : Option ReceiverState) (content : Content) →
      own + shift_of past ≡ p → WasSent c past p content → AnswersIn c.window stream old own content now heard new → KeptBy c past old → Plays c past → KeepsAndPlays c (Delivered i label now (told heard) ∷ past) new
  placed_in streams.Media learning own heard old new content at was step kept plays = placed own heard old new content at was step kept plays
  placed_in streams.Repair learning own heard old new content at was step kept plays = placed own heard old new content at was step kept plays
  placed_in (streams.Candidate ssrc) learning own (Ok taken) old new content at was (asked, step) kept plays =
      placed own (Ok taken) (record old { learnt = Some ssrc }) new content at was step
      (learns (shift_of past) (cursor_of past) (highest_taken past) (WasSent c past) (IsReached past) (noticed_of past) old (Some ssrc) kept) plays
  placed_in (streams.Candidate ssrc) learning own (Err refused.Unasked) old new content at was (unasked, is) kept plays = (
    refuses refused.Unasked old new is kept (λ k h here reaches none. (subst (λ o. Reaches o (Refused refused.Unasked)) kept.highest reaches).1 refl),
    (plays.0, plays.1, (inr (inr (inr (inr (learning, refl)))), plays.2)),
  )
  placed_in (streams.Candidate ssrc) learning own (Err fault) old new content at was never kept plays = absurd never

  -- a retransmission before the start
  unstarted : (heard : Result Took ReceiveFault) (new : Option ReceiverState) → heard ≡ Err refused.NotStarted → new ≡ None → Keeps c past None → Plays c past → KeepsAndPlays c (Delivered i label now (told heard) ∷ past) new
  unstarted heard new is same fresh plays =
      subst (λ (x : Result Took ReceiveFault). KeepsAndPlays c (Delivered i label now (told x) ∷ past) new) (sym is) (
        keeps_as c (Delivered i label now (Refused refused.NotStarted) ∷ past) None new same
            (record { shift_is = fresh.shift_is; cursor = fresh.cursor; highest = fresh.highest; reached = λ k r. ⊎_elim (λ x. subst (λ o. Reaches o (Refused refused.NotStarted)) fresh.highest x.1) (fresh.reached k) r; noticed = fresh.noticed }),
        (plays.0, plays.1, (inl refl, plays.2)),
      )

  -- from too far
  far : (heard : Result Took ReceiveFault) (old : ReceiverState) (new : Option ReceiverState) → heard ≡ Err (refused.Place Far) → new ≡ Some old → KeptBy c past old → Plays c past → KeepsAndPlays c (Delivered i label now (told heard) ∷ past) new
  far heard old new is same kept plays =
      subst (λ (x : Result Took ReceiveFault). KeepsAndPlays c (Delivered i label now (told x) ∷ past) new) (sym is) (
        refuses (refused.Place Far) old new same kept (λ k h here reaches none. (subst (λ o. Reaches o (Refused (refused.Place Far))) kept.highest reaches).0 refl),
        (plays.0, plays.1, (inr (inl refl), plays.2)),
      )

  -- the first one
  started : (heard : Result Took ReceiveFault) (new : Option ReceiverState) (content : Content) →
      65536 ≤ p → WasSent c past p content → StartsAt (65536 + number p) content heard new → Keeps c past None → Plays c past → KeepsAndPlays c (Delivered i label now (told heard) ∷ past) new
  started (Ok taken) None content big was (at, over, none) fresh plays = absurd none
  started (Ok taken) (Some w) content big was (at, over, starting) fresh plays =
      let step = starts (shift_of past) (cursor_of past) (highest_taken past) (WasSent c past) (IsReached past) (noticed_of past) w p now taken.overrun content fresh big was starting in (
        took taken (65536 + number p) w at
            (shifted (65536 + number p) taken.overrun w (p - (65536 + number p)) (ap (λ h. first_or h (p - (65536 + number p)) (shift_of past)) fresh.highest) step),
        (plays.0, plays.1, (tt, plays.2)),
      )
  started (Err fault) new content big was never fresh plays = absurd never

received : (c : Config) (past : List Entry) (i : ℕ) (label : Label) (p now : ℕ) (heard : Result Took ReceiveFault) (stream : Stream) (old new : Option ReceiverState) (content : Content) → CanLearn c stream → place_of label ≡ Some p →
    WasSent c past p content → ReceivesLabel c (shift_of past) stream old p content now heard new → KeepsAndPlays c past old → KeepsAndPlays c (Delivered i label now (told heard) ∷ past) new
received c past i label p now heard streams.Media None new content learning at was step (fresh, plays) =
    started c past i label p now at heard new content (let place = was.1 in omega (arith, place)) was step fresh plays
received c past i label p now heard streams.Repair None new content learning at was (is, same) (fresh, plays) = unstarted c past i label p now at heard new is same fresh plays
received c past i label p now heard (streams.Candidate ssrc) None new content learning at was (is, same) (fresh, plays) = unstarted c past i label p now at heard new is same fresh plays
received c past i label p now heard stream (Some old) new content learning at was (inl (apart, is, same)) (kept, plays) = far c past i label p now at heard old new is same kept plays
received c past i label p now heard stream (Some old) new content learning at was (inr (own, here, near, step)) (kept, plays) =
    placed_in c past i label p now at stream learning own heard old new content here was step kept plays

-- feedback is delivered, which the receiver knows nothing of
fed_back : (c : Config) (past : List Entry) (i now : ℕ) (pairs : ArrayVec Pair) (marking : Marking) (r : Option ReceiverState) → KeepsAndPlays c past r → KeepsAndPlays c (Delivered i (Feedback pairs) now (Marked marking) ∷ past) r
fed_back c past i now pairs marking None (fresh, plays) = (
  record { shift_is = fresh.shift_is; cursor = fresh.cursor; highest = fresh.highest; reached = λ k r. ⊎_elim (λ x. none-some k x.0) (fresh.reached k) r; noticed = fresh.noticed },
  (plays.0, plays.1, (tt, plays.2)),
)
fed_back c past i now pairs marking (Some w) (kept, plays) = (
  refused_one (shift_of past) (cursor_of past) (highest_taken past) (WasSent c past) (IsReached past) (noticed_of past) w (λ k. (None ≡ Some k) × Reaches (highest_taken past) (Marked marking)) kept (λ k h x none. none-some (k + shift_of past) x.0),
  (plays.0, plays.1, (tt, plays.2)),
)

goes_as : (c : Config) (past : List Entry) (old new : Option ReceiverState) → new ≡ old → KeepsAndPlays c past old → KeepsAndPlays c past new
goes_as c past old new is goes = subst (λ (r : Option ReceiverState). KeepsAndPlays c past r) (sym is) goes

fed_back_as : (c : Config) (past : List Entry) (i now : ℕ) (label : Label) (answer : Answer) (old new : PlaceWorld) → HearsFeedbackOf c old label answer new → KeepsAndPlays c past old.receiver → KeepsAndPlays c (Delivered i label now answer ∷ past) new.receiver
fed_back_as c past i now (Feedback pairs) (Marked marking) old new (marks, is) goes = fed_back c past i now pairs marking new.receiver (goes_as c past old.receiver new.receiver is goes)
fed_back_as c past i now (Feedback pairs) answer old new never goes = absurd never
fed_back_as c past i now label answer old new never goes = absurd never

delivered : (c : Config) (past : List Entry) (i now : ℕ) (label : Label) (answer : Answer) (old new : PlaceWorld) (place : Option ℕ) → place_of label ≡ place →
    HearsPlace c past old label place now answer new → KeepsAndPlays c past old.receiver → KeepsAndPlays c (Delivered i label now answer ∷ past) new.receiver
delivered c past i now label answer old new (Some p) at step goes =
    subst (λ (a : Answer). KeepsAndPlays c (Delivered i label now a ∷ past) new.receiver) (sym step.tells)
    (received c past i label p now step.heard (stream_in c.receiver old.receiver label) old.receiver new.receiver step.content (can_learn c old.receiver label) at step.was_sent step.receives goes)
delivered c past i now label answer old new None at step goes = fed_back_as c past i now label answer old new step goes

noticed_some : (o : Option Missed) (t : ℕ) → noticed_in o ≡ Some t → (m : Missed) × (o ≡ Some m) × (m.noticed ≡ t)
noticed_some None t e = absurd (none-some t e)
noticed_some (Some m) t e = (m, refl, same_Some m.noticed t e)

-- the machine's patience is the log's
over : (patience noticed now : ℕ) → HasPassed patience noticed now → IsOver patience noticed now
over patience noticed now passed = let later = passed.later in let long = passed.long in omega (arith, later, long)

passed : (patience noticed now : ℕ) → IsOver patience noticed now → HasPassed patience noticed now
passed patience noticed now over = record { later = omega (arith, over); long = omega (arith, over) }

noticed_at : (c : Config) (now : ℕ) (o : Option Missed) → IsSomeAnd o (λ m. HasPassed c.receiver.patience m.noticed now) → (t : ℕ) × (noticed_in o ≡ Some t) × IsOver c.receiver.patience t now
noticed_at c now None never = absurd never
noticed_at c now (Some m) long = (m.noticed, refl, over c.receiver.patience m.noticed now long)

waits : (c : Config) (past : List Entry) (now : ℕ) (w : ReceiverState) → KeptBy c past w → w.held w.cursor ≡ None → ((m : Missed) → w.missing w.cursor ≡ Some m → HasPassed c.receiver.patience m.noticed now → ⊥) → IsWaitFor c past (Some w.cursor) now
waits c past now w kept free impatient = (
  λ r. kept.reached w.cursor (omega arith) r free,
  λ t e long. let m = noticed_some (w.missing w.cursor) t (kept.noticed w.cursor (omega arith) free ∙ e) in
      impatient m.0 m.1 (passed c.receiver.patience m.0.noticed now (subst (λ n. IsOver c.receiver.patience n now) (sym m.2) long)),
)

played : (c : Config) (past : List Entry) (now : ℕ) (answer : Play_answer) (old new : Option ReceiverState) →
    PlaysAny c.receiver.patience old now answer new → KeepsAndPlays c past old → KeepsAndPlays c (Played now answer ∷ past) new
played c past now Wait None new is (fresh, plays) =
    (keeps_as c past None new is fresh, (plays.0, (subst (λ o. IsWaitFor c past o now) (sym fresh.cursor) tt, plays.1), plays.2))
played c past now (Packet place content) None new never goes = absurd never
played c past now (Gap place) None new never goes = absurd never
played c past now Wait (Some old) new (free, impatient, is) (kept, plays) =
    (keeps_as c past (Some old) new is kept, (plays.0, (subst (λ o. IsWaitFor c past o now) (sym kept.cursor) (waits c past now old kept free impatient), plays.1), plays.2))
played c past now (Packet place content) (Some old) None (at, held, none) goes = absurd none
played c past now (Packet place content) (Some old) (Some w) (at, held, pass) (kept, plays) = (
  passes (shift_of past) (cursor_of past) (highest_taken past) (WasSent c past) (IsReached past) (noticed_of past) old w kept pass,
  ((kept.sent place content held, kept.came place content held, plays.0), plays.1, plays.2),
)
played c past now (Gap place) (Some old) None (at, free, cause, none) goes = absurd none
played c past now (Gap place) (Some old) (Some w) (at, free, cause, pass) (kept, plays) =
    let t = noticed_at c now (old.missing place) cause in (
      passes (shift_of past) (cursor_of past) (highest_taken past) (WasSent c past) (IsReached past) (noticed_of past) old w kept pass,
      (
        plays.0,
        (record { not_reached = λ r. kept.reached place (omega arith) r free; noticed = (t.0, sym (kept.noticed place (omega arith) free) ∙ t.1, t.2) }, plays.1),
        plays.2,
      ),
    )

asked_at : (c : Config) (past : List Entry) (covered : List ℕ) (now : ℕ) (w : ReceiverState) (new : Option ReceiverState) → IsSomeAnd new (Asks w covered now) → KeptBy c past w → Keeps c past new
asked_at c past covered now w None none kept = absurd none
asked_at c past covered now w (Some v) step kept = asks (shift_of past) (cursor_of past) (highest_taken past) (WasSent c past) (IsReached past) (noticed_of past) w v covered now kept step

-- an ask leaves what is held, and when a place was noticed
asked : (c : Config) (past : List Entry) (now : ℕ) (pairs : List Pair) (old new : Option ReceiverState) → AsksAnyBy c.receiver old now pairs new → Keeps c past old → Keeps c past new
asked c past now pairs None new never kept = absurd never
asked c past now pairs (Some w) new step kept = asked_at c past (take step.asked.count (take longest_ask step.due)) now w new step.asked.asks kept

-- whatever is injected at the sender leaves the receiver
injected : (c : Config) (past : List Entry) (now : ℕ) (answer : Answer) (old new : PlaceWorld) → MarksAnything c old answer new → KeepsAndPlays c past old.receiver → KeepsAndPlays c (Injected Sender now answer ∷ past) new.receiver
injected c past now (Marked marking) old new (nacks, (marks, is)) goes = let after = goes_as c past old.receiver new.receiver is goes in (keeps_as c past new.receiver new.receiver refl after.0, after.1)
injected c past now (FeedbackRefused fault) old new (sender, is) goes = let after = goes_as c past old.receiver new.receiver is goes in (keeps_as c past new.receiver new.receiver refl after.0, after.1)
injected c past now (Taken taken) old new never goes = absurd never
injected c past now (Refused fault) old new never goes = absurd never

sent_more : (c : Config) (past : List Entry) (place index : ℕ) (content : Content) (r : Option ReceiverState) → Keeps c past r → Keeps c (Sent place index content ∷ past) r
sent_more c past place index content None fresh = fresh
sent_more c past place index content (Some w) kept =
    sends (shift_of past) (cursor_of past) (highest_taken past) (WasSent c past) (IsReached past) (noticed_of past) w (WasSent c (Sent place index content ∷ past))
    (λ q d h. (h.0, h.1, get_front (contents past) (content ∷ []) h.0 d h.2)) kept

receiver_is : (v w : PlaceWorld) → v ≡ w → v.receiver ≡ w.receiver
receiver_is v w e = ap (λ (x : PlaceWorld). x.receiver) e

-- by induction over the run
pub goes : (c : Config) (past : List Entry) (end : PlaceWorld) → PlaceRun c past end → KeepsAndPlays c past end.receiver
goes c [] end is =
    (keeps_as c [] None end.receiver (receiver_is end (new_places c) is) (record { shift_is = refl; cursor = refl; highest = refl; reached = λ k h. h; noticed = λ k. refl }), (tt, tt, tt))
goes c (Sent place index content ∷ past) end (old, run, (at, fits, index_at, sends, labels, is)) =
    let before = goes c past old run in (keeps_as c (Sent place index content ∷ past) old.receiver end.receiver is (sent_more c past place index content old.receiver before.0), before.1)
goes c (SendRefused fault ∷ past) end (old, run, (why, is)) =
    let before = goes c past old run in (keeps_as c past old.receiver end.receiver (receiver_is end old is) before.0, before.1)
goes c (Repaired place index ∷ past) end (old, run, (index_at, repairs, labels, is)) =
    let before = goes c past old run in (keeps_as c past old.receiver end.receiver is before.0, before.1)
goes c (NoRepair ∷ past) end (old, run, (why, is)) =
    let before = goes c past old run in (keeps_as c past old.receiver end.receiver (receiver_is end old is) before.0, before.1)
goes c (Asked index now ∷ past) end (old, run, (index_at, sender, (pairs, step, labels))) =
    let before = goes c past old run in (asked c past now pairs.items old.receiver end.receiver step before.0, before.1)
goes c (NoAsk now ∷ past) end (old, run, (why, is)) =
    let before = goes c past old run in (keeps_as c past old.receiver end.receiver (receiver_is end old is) before.0, before.1)
goes c (Nothing ∷ past) end (old, run, is) =
    let before = goes c past old run in (keeps_as c past old.receiver end.receiver (receiver_is end old is) before.0, before.1)
goes c (Delivered index label now answer ∷ past) end (old, run, (at, step, labels)) = delivered c past index now label answer old end (place_of label) refl step (goes c past old run)
goes c (Injected Receiver now answer ∷ past) end (old, run, never) = absurd never
goes c (Injected Sender now answer ∷ past) end (old, run, (step, labels)) = injected c past now answer old end step (goes c past old run)
goes c (Played now answer ∷ past) end (old, run, (step, sender, labels)) = played c past now answer old.receiver end.receiver step (goes c past old run)

-- The shift is a number of whole cycles.
pub shift_is_whole : (c : Config) (past : List Entry) (r : Option ReceiverState) → Keeps c past r → (cycles : ℕ) × (shift_of past ≡ cycles * 65536)
shift_is_whole c past None fresh = (0, fresh.shift_is)
shift_is_whole c past (Some w) kept = (kept.cycles, kept.whole)

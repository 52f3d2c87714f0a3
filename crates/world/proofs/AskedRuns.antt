-- By induction over a run of the place world: each ask of it has its cause.
use Rattle.std.proofs.Common.{◌≡◌, ℕ, Bool, true, false, ◌+◌, ◌≤◌, List, [], ◌∷◌, ◌++◌, length, take, Option, Some, None, IsSomeAnd, Result, Ok, Err, refl, sym, ap, subst, ◌∙◌, inl, inr, append_assoc, append-nil}
use Rattle.std.specs.Prelude.{slice_get}
use Rattle.std.proofs.lemmas.Option.{none-some}
use Rattle.places.specs.Place.{number}
use Rattle.rtpwire.specs.declared.content.Content.{Content}
use Rattle.fbwire.specs.declared.nack.Pair.{Pair}
use Rattle.stores.specs.declared.slot.PutFault.TheVariants.{Late, Duplicate}
use Rattle.stores.specs.Asking.{longest_ask}
use Rattle.receiver.specs.declared.answer.Taken.{Taken as Took}
use Rattle.receiver.specs.declared.answer.Played.{Played as Play_answer}
use Rattle.receiver.specs.declared.answer.Played.TheVariants.{Packet, Gap, Wait}
use Rattle.receiver.specs.declared.fault.ReceiveFault.{ReceiveFault}
use Rattle.receiver.specs.declared.fault.ReceiveFault.TheVariants as refused
use Rattle.receiver.specs.declared.stream.Stream.{Stream}
use Rattle.receiver.specs.declared.stream.Stream.TheVariants as streams
use Rattle.receiver.specs.Window.{ReceiverState, Passes, AnswersPlace, StartsAt, PlaysAny}
use Rattle.receiver.specs.Heard.{AnswersIn}
use Rattle.receiver.specs.Asks.{Asks}
use Rattle.world.specs.declared.event.End.TheVariants.{Sender, Receiver}
use Rattle.world.specs.declared.event.Label.{Label}
use Rattle.world.specs.declared.event.Label.TheVariants.{Media, Repair, Feedback}
use Rattle.world.specs.declared.event.Answer.{Answer}
use Rattle.world.specs.declared.event.Answer.TheVariants.{Marked, FeedbackRefused}
use Rattle.world.specs.declared.event.Entry.{Entry}
use Rattle.world.specs.declared.event.Entry.TheVariants.{Sent, SendRefused, Repaired, NoRepair, Asked, NoAsk, Nothing, Delivered, Injected, Played}
use Rattle.world.specs.Config.{Config, IsConfig}
use Rattle.world.specs.Labels.{place_of}
use Rattle.world.specs.Reach.{shift_of}
use Rattle.world.specs.JustifiedAsks.{pairs_under, asked_at, IsToAskFor, IsAskFor, IsAskedRightly}
use Rattle.world.specs.PlaceRun.{PlaceWorld, stream_in, ReceivesLabel, HearsFeedbackOf, HearsPlace, MarksAnything, AsksAnyBy, NoneDue, PlaceRun}
use Rattle.world.proofs.Kept.{Keeps}
use Rattle.world.proofs.Right.{goes}
use Rattle.world.proofs.Asking.{NamesListed, Counts, counts_starts, counts_takes, counts_passes, counts_learns, never_asked, ask_for, ask_due, counts_ask}

-- the window of a receiver, if it has one, beside the asks that the log tells
abbrev CountsAny : Config → List Label → List Entry → Option ReceiverState → Type 0
CountsAny c labels past None = Unit {0}
CountsAny c labels past (Some w) = Counts c.window (λ k. asked_at labels past k) w

counts_as : (c : Config) (labels : List Label) (past : List Entry) (old new : Option ReceiverState) → new ≡ old → CountsAny c labels past old → CountsAny c labels past new
counts_as c labels past old new is counts = subst (λ (r : Option ReceiverState). CountsAny c labels past r) (sym is) counts

-- an entry that tells of no ask
same_asks : (c : Config) (labels : List Label) (past : List Entry) (entry : Entry) (r : Option ReceiverState) → ((k : ℕ) → asked_at labels (entry ∷ past) k ≡ asked_at labels past k) → CountsAny c labels past r → CountsAny c labels (entry ∷ past) r
same_asks c labels past entry None same counts = tt
same_asks c labels past entry (Some w) same counts = subst (λ (f : ℕ → List ℕ). Counts c.window f w) (λ i k. sym (same k) i) counts

-- A packet is delivered to a started receiver, or to one that it starts.
module _ (c : Config) (met : IsConfig c) (labels : List Label) (past : List Entry) (now : ℕ) where
  placed : (own : ℕ) (content : Content) (heard : Result Took ReceiveFault) (old : ReceiverState) (new : Option ReceiverState) → ((k : ℕ) → old.highest ≤ k → asked_at labels past k ≡ []) →
      AnswersPlace c.window old own content now heard new → CountsAny c labels past (Some old) → CountsAny c labels past new
  placed own content (Ok taken) old None unasked (at, above, free, over, none) counts = absurd none
  placed own content (Ok taken) old (Some w) unasked (at, above, free, over, taking) counts = counts_takes c.window met.some_window (λ k. asked_at labels past k) own now content old w unasked taking counts
  placed own content (Err (refused.Put Late)) old new unasked (under, is) counts = counts_as c labels past (Some old) new is counts
  placed own content (Err (refused.Put Duplicate)) old new unasked (above, held, is) counts = counts_as c labels past (Some old) new is counts
  placed own content (Err fault) old new unasked never counts = absurd never

  placed_in : (stream : Stream) (own : ℕ) (content : Content) (heard : Result Took ReceiveFault) (old : ReceiverState) (new : Option ReceiverState) → ((k : ℕ) → old.highest ≤ k → asked_at labels past k ≡ []) →
      AnswersIn c.window stream old own content now heard new → CountsAny c labels past (Some old) → CountsAny c labels past new
  placed_in streams.Media own content heard old new unasked step counts = placed own content heard old new unasked step counts
  placed_in streams.Repair own content heard old new unasked step counts = placed own content heard old new unasked step counts
  placed_in (streams.Candidate ssrc) own content (Ok taken) old new unasked (asked, step) counts =
      placed own content (Ok taken) (record old { learnt = Some ssrc }) new unasked step (counts_learns c.window met.some_window (λ k. asked_at labels past k) old (Some ssrc) counts)
  placed_in (streams.Candidate ssrc) own content (Err refused.Unasked) old new unasked (not, is) counts = counts_as c labels past (Some old) new is counts
  placed_in (streams.Candidate ssrc) own content (Err fault) old new unasked never counts = absurd never

  started : (place : ℕ) (content : Content) (heard : Result Took ReceiveFault) (new : Option ReceiverState) → StartsAt place content heard new → CountsAny c labels past new
  started place content (Ok taken) None (at, over, none) = absurd none
  started place content (Ok taken) (Some w) (at, over, starting) = counts_starts c.window met.some_window (λ k. asked_at labels past k) place content w starting
  started place content (Err fault) new never = absurd never

  received : (stream : Stream) (p : ℕ) (content : Content) (heard : Result Took ReceiveFault) (old new : Option ReceiverState) → Keeps c past old →
      ReceivesLabel c (shift_of past) stream old p content now heard new → CountsAny c labels past old → CountsAny c labels past new
  received streams.Media p content heard None new kept step counts = started (65536 + number p) content heard new step
  received streams.Repair p content heard None new kept (is, same) counts = counts_as c labels past None new same counts
  received (streams.Candidate ssrc) p content heard None new kept (is, same) counts = counts_as c labels past None new same counts
  received stream p content heard (Some old) new kept (inl (far, is, same)) counts = counts_as c labels past (Some old) new same counts
  received stream p content heard (Some old) new kept (inr (own, at, near, step)) counts =
      placed_in stream own content heard old new (λ k high. never_asked labels past k (kept.unnoticed k high)) step counts

  heard_feedback : (label : Label) (answer : Answer) (old new : PlaceWorld) → HearsFeedbackOf c old label answer new → new.receiver ≡ old.receiver
  heard_feedback (Feedback pairs) (Marked marking) old new (marks, is) = is
  heard_feedback (Feedback pairs) answer old new never = absurd never
  heard_feedback label answer old new never = absurd never

  delivered : (label : Label) (answer : Answer) (old new : PlaceWorld) (place : Option ℕ) → Keeps c past old.receiver → HearsPlace c past old label place now answer new → CountsAny c labels past old.receiver → CountsAny c labels past new.receiver
  delivered label answer old new (Some p) kept step counts = received (stream_in c.receiver old.receiver label) p step.content step.heard old.receiver new.receiver kept step.receives counts
  delivered label answer old new None kept step counts = counts_as c labels past old.receiver new.receiver (heard_feedback label answer old new step) counts

  injected : (answer : Answer) (old new : PlaceWorld) → MarksAnything c old answer new → new.receiver ≡ old.receiver
  injected (Marked marking) old new (nacks, (marks, is)) = is
  injected (FeedbackRefused fault) old new (sender, is) = is
  injected answer old new never = absurd never

  passed : (old : ReceiverState) (new : Option ReceiverState) → IsSomeAnd new (Passes old) → CountsAny c labels past (Some old) → CountsAny c labels past new
  passed old None none counts = absurd none
  passed old (Some w) pass counts = counts_passes c.window met.some_window (λ k. asked_at labels past k) old w pass counts

  played : (answer : Play_answer) (old new : Option ReceiverState) → PlaysAny c.receiver.patience old now answer new → CountsAny c labels past old → CountsAny c labels past new
  played Wait None new is counts = counts_as c labels past None new is counts
  played (Packet place content) None new never counts = absurd never
  played (Gap place) None new never counts = absurd never
  played Wait (Some old) new (free, impatient, is) counts = counts_as c labels past (Some old) new is counts
  played (Packet place content) (Some old) new (at, held, pass) counts = passed old new pass counts
  played (Gap place) (Some old) new (at, free, cause, pass) counts = passed old new pass counts

-- An ask, and where there was none.
module _ (names : NamesListed) (c : Config) (met : IsConfig c) (labels : List Label) (past : List Entry) (now : ℕ) where
  asked : (index : ℕ) (pairs : List Pair) (old new : Option ReceiverState) → pairs_under (slice_get labels index) ≡ pairs → Keeps c past old → AsksAnyBy c.receiver old now pairs new → CountsAny c labels past old →
      CountsAny c labels (Asked index now ∷ past) new × IsAskFor c labels past now (pairs_under (slice_get labels index))
  asked index pairs None new here kept never counts = absurd never
  asked index pairs (Some w) new here kept step counts =
      (counted new step.asked.asks, subst (λ (ps : List Pair). IsAskFor c labels past now ps) (sym here) (ask_for names c met labels past w kept counts now pairs new step))
    where
      counted : (r : Option ReceiverState) → IsSomeAnd r (Asks w (take step.asked.count (take longest_ask step.due)) now) → CountsAny c labels (Asked index now ∷ past) r
      counted None none = absurd none
      counted (Some v) asks = counts_ask names c met labels past w kept counts now pairs new step index v here asks

  none_asked : (r : Option ReceiverState) → Keeps c past r → NoneDue c.receiver r now → CountsAny c labels past r → (k : ℕ) → IsToAskFor c labels past k now → ⊥
  none_asked None fresh none counts k wanted = none-some wanted.noticed.0 (sym (fresh.noticed k) ∙ wanted.noticed.1)
  none_asked (Some w) kept none counts k wanted = let due = ask_due c labels past w kept counts now k wanted in let not = none k in absurd (both due not)
    where
      both : {b : Bool} → b ≡ true → b ≡ false → ⊥
      both {b} t f = let e = sym t ∙ f in cc

-- The label of what was put on the wire last, under labels that came later.
last_label : (before later : List Label) (label : Label) → slice_get (before ++ label ∷ later) (length before) ≡ Some label
last_label [] later label = refl
last_label (other ∷ before) later label = last_label before later label

label_there : (labels before later : List Label) (label : Label) (index : ℕ) → index ≡ length before → labels ≡ before ++ label ∷ later → slice_get labels index ≡ Some label
label_there labels before later label index at is = ap (λ (ls : List Label). slice_get ls index) is ∙ ap (λ i. slice_get (before ++ label ∷ later) i) at ∙ last_label before later label

receiver_is : (v w : PlaceWorld) → v ≡ w → v.receiver ≡ w.receiver
receiver_is v w e = ap (λ (x : PlaceWorld). x.receiver) e

labels_are : (v w : PlaceWorld) → v ≡ w → v.labels ≡ w.labels
labels_are v w e = ap (λ (x : PlaceWorld). x.labels) e

-- the labels after a step, which are those before it, or one more
unchanged : (labels old new later : List Label) → labels ≡ new ++ later → new ≡ old → labels ≡ old ++ later
unchanged labels old new later is same = is ∙ ap (λ (ls : List Label). ls ++ later) same

pushed : (labels old new later : List Label) (label : Label) → labels ≡ new ++ later → new ≡ old ++ label ∷ [] → labels ≡ old ++ label ∷ later
pushed labels old new later label is more = is ∙ ap (λ (ls : List Label). ls ++ later) more ∙ append_assoc old (label ∷ []) later

module _ (names : NamesListed) (c : Config) (met : IsConfig c) where
  abbrev Asking : List Label → List Entry → Option ReceiverState → Type 0
  Asking labels past r = CountsAny c labels past r × IsAskedRightly c labels past

  -- Whatever labels came later than those of the run.
  asking : (labels : List Label) (past : List Entry) (end : PlaceWorld) (later : List Label) → labels ≡ end.labels ++ later → PlaceRun c past end → Asking labels past end.receiver
  asking labels [] end later is run = (counts_as c labels [] None end.receiver (ap (λ (x : PlaceWorld). x.receiver) run) tt, tt)
  asking labels (Sent place index content ∷ past) end later is (old, run, (at, fits, index_at, sends, more, same)) =
      let before = asking labels past old (Media place ∷ later) (pushed labels old.labels end.labels later (Media place) is more) run in
      (counts_as c labels (Sent place index content ∷ past) old.receiver end.receiver same (same_asks c labels past (Sent place index content) old.receiver (λ k. refl) before.0), before.1)
  asking labels (SendRefused fault ∷ past) end later is (old, run, (why, same)) =
      let before = asking labels past old later (unchanged labels old.labels end.labels later is (labels_are end old same)) run in
      (counts_as c labels (SendRefused fault ∷ past) old.receiver end.receiver (receiver_is end old same) (same_asks c labels past (SendRefused fault) old.receiver (λ k. refl) before.0), before.1)
  asking labels (Repaired place index ∷ past) end later is (old, run, (index_at, repairs, more, same)) =
      let before = asking labels past old (Repair place ∷ later) (pushed labels old.labels end.labels later (Repair place) is more) run in
      (counts_as c labels (Repaired place index ∷ past) old.receiver end.receiver same (same_asks c labels past (Repaired place index) old.receiver (λ k. refl) before.0), before.1)
  asking labels (NoRepair ∷ past) end later is (old, run, (why, same)) =
      let before = asking labels past old later (unchanged labels old.labels end.labels later is (labels_are end old same)) run in
      (counts_as c labels (NoRepair ∷ past) old.receiver end.receiver (receiver_is end old same) (same_asks c labels past NoRepair old.receiver (λ k. refl) before.0), before.1)
  asking labels (Asked index now ∷ past) end later is (old, run, (index_at, sender, (pairs, step, more))) =
      let all = pushed labels old.labels end.labels later (Feedback pairs) is more in
      let before = asking labels past old (Feedback pairs ∷ later) all run in
      let here = ap (λ (o : Option Label). pairs_under o) (label_there labels old.labels later (Feedback pairs) index index_at all) in
      let after = asked names c met labels past now index pairs.items old.receiver end.receiver here (goes c past old run).0 step before.0 in
      (after.0, (after.1, before.1))
  asking labels (NoAsk now ∷ past) end later is (old, run, (why, same)) =
      let before = asking labels past old later (unchanged labels old.labels end.labels later is (labels_are end old same)) run in (
        counts_as c labels (NoAsk now ∷ past) old.receiver end.receiver (receiver_is end old same) (same_asks c labels past (NoAsk now) old.receiver (λ k. refl) before.0),
        (none_asked names c met labels past now old.receiver (goes c past old run).0 why before.0, before.1),
      )
  asking labels (Nothing ∷ past) end later is (old, run, same) =
      let before = asking labels past old later (unchanged labels old.labels end.labels later is (labels_are end old same)) run in
      (counts_as c labels (Nothing ∷ past) old.receiver end.receiver (receiver_is end old same) (same_asks c labels past Nothing old.receiver (λ k. refl) before.0), before.1)
  asking labels (Delivered index label now answer ∷ past) end later is (old, run, (at, step, same)) =
      let before = asking labels past old later (unchanged labels old.labels end.labels later is same) run in
      (same_asks c labels past (Delivered index label now answer) end.receiver (λ k. refl) (delivered c met labels past now label answer old end (place_of label) (goes c past old run).0 step before.0), before.1)
  asking labels (Injected Receiver now answer ∷ past) end later is (old, run, never) = absurd never
  asking labels (Injected Sender now answer ∷ past) end later is (old, run, (step, same)) =
      let before = asking labels past old later (unchanged labels old.labels end.labels later is same) run in
      (counts_as c labels (Injected Sender now answer ∷ past) old.receiver end.receiver (injected c met labels past now answer old end step) (same_asks c labels past (Injected Sender now answer) old.receiver (λ k. refl) before.0), before.1)
  asking labels (Played now answer ∷ past) end later is (old, run, (step, sender, same)) =
      let before = asking labels past old later (unchanged labels old.labels end.labels later is same) run in
      (same_asks c labels past (Played now answer) end.receiver (λ k. refl) (played c met labels past now answer old.receiver end.receiver step before.0), before.1)

  -- The asks of a run have their causes.
  pub asks_rightly : (past : List Entry) (end : PlaceWorld) → PlaceRun c past end → IsAskedRightly c end.labels past
  asks_rightly past end run = (asking end.labels past end [] (sym (append-nil end.labels)) run).1

-- A step of the place world is a function, but for what is injected: an entry leaves one place world.
use Rattle.std.proofs.Common.{◌≡◌, ℕ, ◌+◌, ◌<◌, ◌≤◌, ◌⊎◌, List, [], ◌∷◌, ◌++◌, Option, Some, None, Result, Ok, Err, refl, sym, ap, subst, ◌∙◌, inl, inr, arith}
use Rattle.std.proofs.lemmas.Bool.{cases_eq, cases_lt}
use Rattle.std.proofs.lemmas.Option.{same_Some}
use Rattle.places.specs.Place.{number}
use Rattle.rtpwire.specs.declared.content.Content.{Content}
use Rattle.fbwire.specs.declared.nack.Pair.{Pair}
use Rattle.fbwire.specs.Nack.{Nack, Names}
use Rattle.stores.specs.declared.entry.HistoryEntry.{HistoryEntry}
use Rattle.stores.specs.Past.{repeated}
use Rattle.sender.specs.History.{SenderState, Sends, Marks, Repairs}
use Rattle.receiver.specs.declared.answer.Taken.{Taken as Took}
use Rattle.receiver.specs.declared.answer.Played.{Played as Play_answer}
use Rattle.receiver.specs.declared.fault.ReceiveFault.{ReceiveFault}
use Rattle.receiver.specs.declared.stream.Stream.{Stream}
use Rattle.receiver.specs.Window.{ReceiverState, PlaysAny}
use Rattle.receiver.specs.Heard.{AnswersIn}
use Rattle.world.specs.declared.event.Label.{Label}
use Rattle.world.specs.declared.event.Label.TheVariants.{Media, Repair, Feedback}
use Rattle.world.specs.declared.event.Answer.{Answer}
use Rattle.world.specs.declared.event.Answer.TheVariants.{Taken, Refused, Marked, FeedbackRefused}
use Rattle.world.specs.declared.event.Entry.{Entry}
use Rattle.world.specs.declared.event.Entry.TheVariants.{Sent, SendRefused, Repaired, NoRepair, Asked, NoAsk, Nothing, Delivered, Injected, Played}
use Rattle.world.specs.Config.{Config}
use Rattle.world.specs.Answers.{told}
use Rattle.world.specs.Reach.{shift_of}
use Rattle.world.specs.Close.{IsUninjected}
use Rattle.world.specs.PlaceRun.{PlaceWorld, stream_in, AnswersLabel, ReceivesLabel, ReceivesSent, MarksNamed, HearsLabel, PlaceStep, PlaceRun}
use Rattle.world.proofs.Marked.{Decided, can_be_marked, decided_alone}
use Rattle.world.proofs.Played.{one_content}
use Rattle.world.proofs.SameWindows.{OnePacking, one_start_in, one_in, one_ask}

-- the laws of the ends that this stands on
pub record Laws : Type 0 where
  pub decided : Decided
  pub one_packing : OnePacking
  pub one_play : (patience now : ℕ) (old : Option ReceiverState) (r s : Play_answer) (v w : Option ReceiverState) → PlaysAny patience old now r v → PlaysAny patience old now s w → (r ≡ s) × (v ≡ w)

same_places : (v w : PlaceWorld) → v.sender ≡ w.sender → v.labels ≡ w.labels → v.receiver ≡ w.receiver → v ≡ w
same_places v w sender labels receiver = λ i. record { sender = sender i; labels = labels i; receiver = receiver i }

-- the sender

same_history : (v w : SenderState) → v.next ≡ w.next → v.repair ≡ w.repair → ((q : ℕ) → v.entries q ≡ w.entries q) → v ≡ w
same_history v w next repair entries = λ i. record { next = next i; repair = repair i; entries = λ q. entries q i }

one_send : (room : ℕ) (old : SenderState) (content : Content) (v w : SenderState) → Sends room old content v → Sends room old content w → v ≡ w
one_send room old content v w a b =
    same_history v w (a.next ∙ sym b.next) (a.repair ∙ sym b.repair) (λ q. elim (cases_eq q old.next) [
      | inl e ↦ ap v.entries e ∙ a.sent ∙ sym b.sent ∙ sym (ap w.entries e)
      | inr other ↦ elim (cases_lt (q + room) v.next) [
        | inl gone ↦ a.gone q gone ∙ sym (b.gone q (subst (λ n. q + room < n) (a.next ∙ sym b.next) gone))
        | inr kept ↦ a.others q other kept ∙ sym (b.others q other (subst (λ n. n ≤ q + room) (a.next ∙ sym b.next) kept))
      ]
    ])

one_repair : (old : SenderState) (place : ℕ) (e f : HistoryEntry) (v w : SenderState) → Repairs old place e v → Repairs old place f w → v ≡ w
one_repair old place e f v w a b =
    let entry : e ≡ f = same_Some e f (sym a.was ∙ b.was) in
    same_history v w (a.next ∙ sym b.next) (a.repair ∙ sym b.repair) (λ k. elim (cases_eq k place) [
      | inl here ↦ ap v.entries here ∙ a.counted ∙ ap (λ (x : HistoryEntry). Some (repeated x)) entry ∙ sym b.counted ∙ sym (ap w.entries here)
      | inr other ↦ a.others k other ∙ sym (b.others k other)
    ])

one_marking : (repeats : ℕ) (named : ℕ → Type 0) → ((n : ℕ) → named n ⊎ (named n → ⊥)) → (old v w : SenderState) (i j : ℕ) → Marks repeats named old i v → Marks repeats named old j w → v ≡ w
one_marking repeats named decided old v w i j a b =
    same_history v w (a.next ∙ sym b.next) (a.repair ∙ sym b.repair) (λ q. elim (decided (number q)) [
      | inl is ↦ elim (can_be_marked repeats (old.entries q)) [
        | inl can ↦ a.marks q is can ∙ sym (b.marks q is can)
        | inr cannot ↦ a.others q (λ again. cannot) ∙ sym (b.others q (λ again. cannot))
      ]
      | inr unnamed ↦ a.others q (λ here. absurd (unnamed here)) ∙ sym (b.others q (λ here. absurd (unnamed here)))
    ])

-- the receiver

-- what the receiver answered, as the log tells it
abbrev heard_in : Result Took ReceiveFault → Answer → Result Took ReceiveFault
heard_in default (Taken taken) = Ok taken
heard_in default (Refused fault) = Err fault
heard_in default (Marked marked) = default
heard_in default (FeedbackRefused fault) = default

heard_told : (default r : Result Took ReceiveFault) → heard_in default (told r) ≡ r
heard_told default (Ok taken) = refl
heard_told default (Err fault) = refl

one_heard : (answer : Answer) (r s : Result Took ReceiveFault) → answer ≡ told r → answer ≡ told s → r ≡ s
one_heard answer r s a b = sym (heard_told r r) ∙ ap (heard_in r) (sym a ∙ b) ∙ heard_told r s

module _ (c : Config) (shift : ℕ) (stream : Stream) (place : ℕ) (content : Content) (now : ℕ) (r : Result Took ReceiveFault) (v w : Option ReceiverState) where
  one_label : (old : ReceiverState) → AnswersLabel c shift stream old place content now r v → AnswersLabel c shift stream old place content now r w → v ≡ w
  one_label old (inl (far, is, same)) (inl (far', is', same')) = same ∙ sym same'
  one_label old (inl (far, is, same)) (inr (own, at, near, answers)) = absurd (far near)
  one_label old (inr (own, at, near, answers)) (inl (far, is, same)) = absurd (far near)
  one_label old (inr (p, at, near, a)) (inr (q, at', near', b)) =
      let same : q ≡ p = omega (arith, at, at') in
      one_in c.window stream old p content now r v w a (subst (λ n. AnswersIn c.window stream old n content now r w) same b)

  one_received : (old : Option ReceiverState) → ReceivesLabel c shift stream old place content now r v → ReceivesLabel c shift stream old place content now r w → v ≡ w
  one_received None a b = one_start_in stream (number place) content r v w a b
  one_received (Some old) a b = one_label old a b

one_delivered : (c : Config) (past : List Entry) (old : PlaceWorld) (label : Label) (place now : ℕ) (answer : Answer) (v w : PlaceWorld) →
    ReceivesSent c past old label place now answer v → ReceivesSent c past old label place now answer w → v.labels ≡ w.labels → v ≡ w
one_delivered c past old label place now answer v w a b labels =
    let content : b.content ≡ a.content = one_content c past place place b.content a.content refl b.was_sent a.was_sent in
    let heard : b.heard ≡ a.heard = one_heard answer b.heard a.heard b.tells a.tells in
    let stream = stream_in c.receiver old.receiver label in
    let receiver =
    one_received c (shift_of past) stream place a.content now a.heard v.receiver w.receiver old.receiver a.receives
    (subst (λ (x : Content × Result Took ReceiveFault). ReceivesLabel c (shift_of past) stream old.receiver place x.0 now x.1 w.receiver) (λ i. (content i, heard i)) b.receives) in
    same_places v w (a.sender ∙ sym b.sender) labels receiver

one_named : (c : Config) (old : PlaceWorld) (named : ℕ → Type 0) → ((n : ℕ) → named n ⊎ (named n → ⊥)) → (answer : Answer) (v w : PlaceWorld) →
    MarksNamed c old named answer v → MarksNamed c old named answer w → v.labels ≡ w.labels → v ≡ w
one_named c old named decided (Marked marked) v w (marks, same) (marks', same') labels =
    same_places v w (one_marking c.repeats named decided old.sender v.sender w.sender marked.places marked.places marks marks') labels (same ∙ sym same')
one_named c old named decided (Taken taken) v w never b labels = absurd never
one_named c old named decided (Refused fault) v w never b labels = absurd never
one_named c old named decided (FeedbackRefused fault) v w never b labels = absurd never

module _ (laws : Laws) (c : Config) where
  names_decided : (pairs : List Pair) (n : ℕ) → Names pairs n ⊎ (Names pairs n → ⊥)
  names_decided pairs n = let nack : Nack = record { reporter = 0; media = 0; pairs = pairs } in decided_alone laws.decided nack n

  one_hearing : (past : List Entry) (old : PlaceWorld) (label : Label) (now : ℕ) (answer : Answer) (v w : PlaceWorld) →
      HearsLabel c past old label now answer v → HearsLabel c past old label now answer w → v.labels ≡ w.labels → v ≡ w
  one_hearing past old (Media place) now answer v w a b labels = one_delivered c past old (Media place) place now answer v w a b labels
  one_hearing past old (Repair place) now answer v w a b labels = one_delivered c past old (Repair place) place now answer v w a b labels
  one_hearing past old (Feedback pairs) now answer v w a b labels = one_named c old (Names pairs.items) (names_decided pairs.items) answer v w a b labels

  one_step : (past : List Entry) (old : PlaceWorld) (entry : Entry) (v w : PlaceWorld) → IsUninjected (entry ∷ past) → PlaceStep c past old entry v → PlaceStep c past old entry w → v ≡ w
  one_step past old (Sent place index content) v w quiet (at, fits, is, sends, labels, receiver) (at', fits', is', sends', labels', receiver') =
      same_places v w (one_send c.history old.sender content v.sender w.sender sends sends') (labels ∙ sym labels') (receiver ∙ sym receiver')
  one_step past old (SendRefused fault) v w quiet (why, same) (why', same') = same ∙ sym same'
  one_step past old (Repaired place index) v w quiet (is, repairs, labels, receiver) (is', repairs', labels', receiver') =
      same_places v w (one_repair old.sender place repairs.0 repairs'.0 v.sender w.sender repairs.1 repairs'.1) (labels ∙ sym labels') (receiver ∙ sym receiver')
  one_step past old NoRepair v w quiet (none, same) (none', same') = same ∙ sym same'
  one_step past old (Asked index now) v w quiet (is, sender, (pairs, asks, labels)) (is', sender', (pairs', asks', labels')) =
      let same = one_ask laws.one_packing now pairs.items pairs'.items v.receiver w.receiver c.receiver old.receiver asks asks' in
      let both : pairs ≡ pairs' = λ i. record { items = same.0 i } in
      let label : old.labels ++ Feedback pairs ∷ [] ≡ old.labels ++ Feedback pairs' ∷ [] = λ i. old.labels ++ Feedback (both i) ∷ [] in
      same_places v w (sender ∙ sym sender') (labels ∙ label ∙ sym labels') same.1
  one_step past old (NoAsk now) v w quiet (none, same) (none', same') = same ∙ sym same'
  one_step past old Nothing v w quiet same same' = same ∙ sym same'
  one_step past old (Delivered index label now answer) v w quiet (there, hears, labels) (there', hears', labels') = one_hearing past old label now answer v w hears hears' (labels ∙ sym labels')
  one_step past old (Injected end now answer) v w never a b = absurd never
  one_step past old (Played now answer) v w quiet (plays, sender, labels) (plays', sender', labels') =
      same_places v w (sender ∙ sym sender') (labels ∙ sym labels') (laws.one_play c.receiver.patience now old.receiver answer answer v.receiver w.receiver plays plays').1

  quiet_before : (entry : Entry) (past : List Entry) → IsUninjected (entry ∷ past) → IsUninjected past
  quiet_before (Sent place index content) past quiet = quiet
  quiet_before (SendRefused fault) past quiet = quiet
  quiet_before (Repaired place index) past quiet = quiet
  quiet_before NoRepair past quiet = quiet
  quiet_before (Asked index now) past quiet = quiet
  quiet_before (NoAsk now) past quiet = quiet
  quiet_before Nothing past quiet = quiet
  quiet_before (Delivered index label now answer) past quiet = quiet
  quiet_before (Injected end now answer) past never = absurd never
  quiet_before (Played now answer) past quiet = quiet

  pub one_run : (past : List Entry) → IsUninjected past → (one other : PlaceWorld) → PlaceRun c past one → PlaceRun c past other → one ≡ other
  one_run [] quiet one other is is' = is ∙ sym is'
  one_run (entry ∷ past) quiet one other (mid, before, step) (mid', before', step') =
      let same : mid' ≡ mid = one_run past (quiet_before entry past quiet) mid' mid before' before in
      one_step past mid entry one other quiet step (subst (λ (x : PlaceWorld). PlaceStep c past x entry other) same step')

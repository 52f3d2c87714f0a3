-- One undisturbed round holds each place that it can mend, and keeps the log close.
use Rattle.std.proofs.Common.{◌≡◌, ◌⊎◌, ℕ, ◌-◌, ◌≤◌, Bool, true, false, List, [], ◌∷◌, ◌++◌, take, max, Option, Some, None, IsSomeAnd, Result, Ok, Err, refl, sym, ap, subst, ◌∙◌, ⊎_elim, inl, inr, arith}
use Rattle.arrayvec.specs.ArrayVec.{ArrayVec}
use Rattle.places.specs.Place.{reach, IsWithin}
use Rattle.rtpwire.specs.declared.content.Content.{Content}
use Rattle.stores.specs.declared.entry.HistoryEntry.{HistoryEntry}
use Rattle.stores.specs.PastByPlace.{is_marked}
use Rattle.stores.specs.Asking.{longest_ask}
use Rattle.fbwire.specs.declared.nack.Pair.{Pair}
use Rattle.fbwire.specs.Nack.{Names}
use Rattle.sender.specs.declared.answer.Marked.{Marked as Marking}
use Rattle.sender.specs.History.{SenderState, Marks, Repairs}
use Rattle.receiver.specs.declared.answer.Taken.{Taken as Took}
use Rattle.receiver.specs.declared.fault.ReceiveFault.{ReceiveFault}
use Rattle.receiver.specs.Window.{ReceiverState}
use Rattle.receiver.specs.Heard.{WasAsked}
use Rattle.receiver.specs.Asks.{is_due, Asks}
use Rattle.world.specs.declared.event.Event.{Event}
use Rattle.world.specs.declared.event.Label.{Label}
use Rattle.world.specs.declared.event.Label.TheVariants.{Repair, Feedback}
use Rattle.world.specs.declared.event.Answer.{Answer}
use Rattle.world.specs.declared.event.Answer.TheVariants.{Taken, Refused, Marked, FeedbackRefused}
use Rattle.world.specs.declared.event.Entry.{Entry}
use Rattle.world.specs.declared.event.Entry.TheVariants.{Repaired, NoRepair, Asked, NoAsk, Delivered}
use Rattle.world.specs.Config.{Config, IsConfig}
use Rattle.world.specs.Labels.{place_of}
use Rattle.world.specs.Answers.{Item, WorldState, told, nack_of, DeliversAt, Step, Answers}
use Rattle.world.specs.Reach.{highest_taken, shift_of, greater, first_or}
use Rattle.world.specs.Close.{IsCloseTo, IsClose, IsHonest}
use Rattle.world.specs.PlaceRun.{PlaceWorld, stream_in, places_of, ReceivesLabel, AnswersLabel, HearsFeedbackOf, HearsLabel, AsksDueBy, AsksAnyBy, NoneDue, ReceivesSent}
use Rattle.world.specs.Round.{Adds, IsAsking, IsRepairing, IsRound}
use Rattle.world.proofs.Marked.{decided_alone}
use Rattle.world.proofs.Faithful.{wired}
use Rattle.world.proofs.Learnt.{learnt_is}
use Rattle.world.proofs.Right.{goes}
use Rattle.world.proofs.Simulates.{Laws, simulates, heard_as, asked_by, none_due}
use Rattle.world.proofs.Steps.{adds_answer, newest, none_added, asked_step, no_ask_step, repaired_step, no_repair_step, delivered_step, delivered_last}
use Rattle.world.proofs.Ready.{Ready, IsMarked, IsDue, IsWanted, IsHere, asks_ready, asks_marked, asks_wanted, asks_asked, repair_up, repair_near, repairs_ready, repairs_marked, repair_done}

-- a round injects nothing
asking_honest : (now : ℕ) (added past : List Entry) → IsAsking now added → IsHonest past → IsHonest (added ++ past)
asking_honest now [] past kind honest = honest
asking_honest now (Delivered index label moment answer ∷ Asked at asked ∷ added) past kind honest = asking_honest now added past kind.3 honest
asking_honest now (entry ∷ added) past kind honest = absurd kind

pub repairing_honest : (now : ℕ) (added past : List Entry) → IsRepairing now added → IsHonest past → IsHonest (added ++ past)
repairing_honest now [] past kind honest = absurd kind
repairing_honest now (NoAsk asked ∷ added) past kind honest = asking_honest now added past kind.1 honest
repairing_honest now (Delivered index label moment answer ∷ Repaired place at ∷ added) past kind honest = repairing_honest now added past kind.2 honest
repairing_honest now (entry ∷ added) past kind honest = absurd kind

-- what the log says all through the round
abbrev pub Reads : (shift top : ℕ) → List Entry → Type 0
Reads shift top past = (highest_taken past ≡ Some top) × (shift_of past ≡ shift) × IsClose past

no_packet : (highest : Option ℕ) → IsCloseTo highest None
no_packet None = tt
no_packet (Some highest) = tt

reads_feedback : (shift top : ℕ) (past : List Entry) (i now : ℕ) (pairs : ArrayVec Pair) (marking : Marking) → Reads shift top past → Reads shift top (Delivered i (Feedback pairs) now (Marked marking) ∷ past)
reads_feedback shift top past i now pairs marking reads = (reads.0, reads.1, (no_packet (highest_taken past), reads.2))

reads_repair : (shift top : ℕ) (past : List Entry) (i now place : ℕ) (heard : Result Took ReceiveFault) → place ≤ top → IsWithin reach place top → Reads shift top past → Reads shift top (Delivered i (Repair place) now (told heard) ∷ past)
reads_repair shift top past i now place (Ok taken) up near reads = (
  ap (λ (o : Option ℕ). greater o (Some place)) reads.0 ∙ ap (λ n. Some n) (let e : max top place ≡ top = omega (arith, up) in e),
  ap (λ (o : Option ℕ). first_or o (place - taken.place) (shift_of past)) reads.0 ∙ reads.1,
  (subst (λ (o : Option ℕ). IsCloseTo o (Some place)) (sym reads.0) (omega (arith, near.0), omega (arith, near.1)), reads.2),
)
reads_repair shift top past i now place (Err fault) up near reads =
    (reads.0, reads.1, (subst (λ (o : Option ℕ). IsCloseTo o (Some place)) (sym reads.0) (omega (arith, near.0), omega (arith, near.1)), reads.2))

-- feedback from a sender marks
marks_of : (c : Config) (pairs : ArrayVec Pair) (answer : Answer) (old new : PlaceWorld) → HearsFeedbackOf c old (Feedback pairs) answer new →
    (marking : Marking) × (answer ≡ Marked marking) × Marks c.repeats (Names pairs.items) old.sender marking.places new.sender × (new.receiver ≡ old.receiver)
marks_of c pairs (Marked marking) old new (marks, is) = (marking, refl, marks, is)
marks_of c pairs (Taken taken) old new never = absurd never
marks_of c pairs (Refused fault) old new never = absurd never
marks_of c pairs (FeedbackRefused fault) old new never = absurd never

module _ (laws : Laws) (c : Config) (met : IsConfig c) (now shift p q top : ℕ) where
  pub record WhileAsking (s : WorldState) : Type 0 where
    pub window : ReceiverState
    pub started : s.receiver ≡ Some window
    pub ready : Ready c shift p q top window s.sender
    pub asked : IsDue c now q window ⊎ WasAsked (window.missing q)
    pub wanted : IsMarked p s.sender ⊎ IsWanted c now p q window s.sender

  pub record WhileRepairing (s : WorldState) : Type 0 where
    pub window : ReceiverState
    pub started : s.receiver ≡ Some window
    pub ready : Ready c shift p q top window s.sender
    pub mended : (IsMarked p s.sender × WasAsked (window.missing q)) ⊎ IsHere q window

  -- an ask that the sender hears
  asks_heard : (old new : WorldState) (pairs : ArrayVec Pair) (count : ℕ) → AsksAnyBy c.receiver old.receiver now pairs.items new.receiver → Marks c.repeats (Names pairs.items) old.sender count new.sender → WhileAsking old → WhileAsking new
  asks_heard old new pairs count asks marks state = at_window (subst (λ (r : Option ReceiverState). AsksAnyBy c.receiver r now pairs.items new.receiver) state.started asks)
    where
      decided : (n : ℕ) → Names pairs.items n ⊎ (Names pairs.items n → ⊥)
      decided = decided_alone laws.decided (nack_of c.receiver.session pairs.items)

      at_window : AsksDueBy c.receiver state.window now pairs.items new.receiver → WhileAsking new
      at_window step = by new.receiver refl step.asked.asks
        where
          by : (r' : Option ReceiverState) → new.receiver ≡ r' → IsSomeAnd r' (Asks state.window (take step.asked.count (take longest_ask step.due)) now) → WhileAsking new
          by None is none = absurd none
          by (Some w) is asking =
              record {
                window = w;
                started = is;
                ready = asks_ready c met now shift p q top state.window w old.sender new.sender step.due step.each.each pairs.items new.receiver step.asked asking count marks decided state.ready;
                asked = asks_asked c met now shift p q top state.window w old.sender new.sender step.due step.each.each pairs.items new.receiver step.asked asking count marks decided state.ready state.asked;
                wanted = ⊎_elim
                    (λ marked. inl (asks_marked c met now shift p q top state.window w old.sender new.sender step.due step.each.each pairs.items new.receiver step.asked asking count marks decided state.ready marked))
                    (λ wanted. asks_wanted c met now shift p q top state.window w old.sender new.sender step.due step.each.each pairs.items new.receiver step.asked asking count marks decided state.ready wanted)
                    state.wanted;
              }

  -- nothing is due, so the place was asked for, and is marked
  asked_all : (s : WorldState) → NoneDue c.receiver s.receiver now → WhileAsking s → WhileRepairing s
  asked_all s none state =
      let nothing : NoneDue c.receiver (Some state.window) now = subst (λ (r : Option ReceiverState). NoneDue c.receiver r now) state.started none in
      let not_due : IsDue c now q state.window → ⊥ = λ due. no_both (is_due now c.receiver.delay c.receiver.retry c.receiver.asks (state.window.missing q)) (nothing q) due in
      record {
        window = state.window;
        started = state.started;
        ready = state.ready;
        mended = inl (
          ⊎_elim (λ marked. marked) (λ (wanted : IsWanted c now p q state.window s.sender). absurd (not_due wanted.due)) state.wanted,
          ⊎_elim (λ due. absurd (not_due due)) (λ asked. asked) state.asked,
        );
      }
    where
      no_both : (b : Bool) → b ≡ false → b ≡ true → ⊥
      no_both b f t = absurd cc

  -- a retransmission that the receiver hears
  repairs_heard : (old new : WorldState) (place : ℕ) (entry : HistoryEntry) (content : Content) (heard : Result Took ReceiveFault) → Repairs old.sender place entry new.sender →
      ReceivesLabel c shift (stream_in c.receiver old.receiver (Repair place)) old.receiver place content now heard new.receiver → WhileRepairing old → WhileRepairing new
  repairs_heard old new place entry content heard repair receives state =
      let up = repair_up c met now shift p q top state.window old.sender new.sender place entry repair state.ready in
      let near = repair_near c met now shift p q top state.window old.sender new.sender place entry repair state.ready in
      let ready = repairs_ready c met now shift p q top state.window old.sender new.sender place entry repair state.ready in
      let answers : AnswersLabel c shift (stream_in c.receiver old.receiver (Repair place)) state.window place content now heard new.receiver =
      subst (λ (r : Option ReceiverState). ReceivesLabel c shift (stream_in c.receiver old.receiver (Repair place)) r place content now heard new.receiver) state.started receives in
      let done = repair_done c met now shift p q top place content (stream_in c.receiver old.receiver (Repair place)) heard state.window new.sender new.receiver up near answers ready in
      record {
        window = done.window;
        started = done.started;
        ready = done.ready;
        mended = ⊎_elim
            (λ (x : IsMarked p old.sender × WasAsked (state.window.missing q)).
            ⊎_elim
            (λ still. ⊎_elim (λ asked. inl (still, asked)) (λ here. inr here) (done.asked x.1))
            (λ is_p. inr (done.comes is_p x.1))
            (repairs_marked c met now shift p q top state.window old.sender new.sender place entry repair state.ready x.0))
            (λ here. inr (done.stays here))
            state.mended;
      }

  -- a log that is close and honest, and leaves this stand
  record Calm (events : List Event) (log : List Entry) (s : WorldState) : Type 0 where
    pub answers : Answers c events log s
    pub honest : IsHonest log
    pub reads : Reads shift top log

  -- what a delivery does after such a log
  delivers : (events : List Event) (log : List Entry) (old new : WorldState) (index : ℕ) (label : Label) (moment : ℕ) (answer : Answer) → Calm events log old →
      IsCloseTo (highest_taken log) (place_of label) → DeliversAt c old index label moment answer new → HearsLabel c log (places_of old) label moment answer (places_of new)
  delivers events log old new index label moment answer calm near step =
      let run = simulates laws c met events log old calm.answers calm.reads.2 calm.honest in
      heard_as laws c met log old new index label moment answer (goes c log (places_of old) run).0 (learnt_is c log (places_of old) run) near (wired laws.any laws.decided laws.one_nack c met events log old calm.answers) step

  -- an ask, and the delivery of its datagram
  ask_pair : (events : List Event) (event : Event) (log : List Entry) (old mid new : WorldState) (at asked index moment : ℕ) (label : Label) (answer : Answer) → Calm events log old → Step c old event (Asked at asked) mid →
      DeliversAt c mid index label moment answer new → index ≡ at → moment ≡ now → asked ≡ now → WhileAsking old → WhileAsking new × Reads shift top (Delivered index label moment answer ∷ Asked at asked ∷ log)
  ask_pair events event log old mid new at asked index moment label answer calm step delivery same now_too now_is state =
      let asks = asked_step c old event at asked mid step in
      let item = delivered_last old.wire mid.wire (Feedback asks.pairs, asks.datagram) (label, delivery.datagram) at index asks.wire asks.index_is same delivery.there in
      let label_is : Feedback asks.pairs ≡ label = ap (λ (x : Item). x.0) item in
      let mid_calm : Calm (event ∷ events) (Asked at asked ∷ log) mid = record { answers = (old, calm.answers, step); honest = calm.honest; reads = calm.reads } in
      let heard = delivers (event ∷ events) (Asked at asked ∷ log) mid new index (Feedback asks.pairs) moment answer mid_calm (no_packet (highest_taken log)) (subst (λ (l : Label). DeliversAt c mid index l moment answer new) (sym label_is) delivery) in
      let marks = marks_of c asks.pairs answer (places_of mid) (places_of new) heard in
      let by = asked_by laws.one_nack c asked at old mid asks old.receiver asks.asks in (
        asks_heard old new asks.pairs marks.0.places
            (subst (λ (x : ℕ × Option ReceiverState). AsksAnyBy c.receiver old.receiver x.0 asks.pairs.items x.1) (λ i. (now_is i, sym marks.3 i)) by)
            (subst (λ (s : SenderState). Marks c.repeats (Names asks.pairs.items) s marks.0.places new.sender) asks.sender marks.2)
            state,
        subst (λ (x : Label × Answer). Reads shift top (Delivered index x.0 moment x.1 ∷ Asked at asked ∷ log)) (λ i. (label_is i, sym marks.1 i))
            (reads_feedback shift top (Asked at asked ∷ log) index moment asks.pairs marks.0 calm.reads),
      )

  -- a retransmission, and the delivery of its datagram
  repair_pair : (events : List Event) (event : Event) (log : List Entry) (old mid new : WorldState) (place at index moment : ℕ) (label : Label) (answer : Answer) → Calm events log old → Step c old event (Repaired place at) mid →
      DeliversAt c mid index label moment answer new → index ≡ at → moment ≡ now → WhileRepairing old → WhileRepairing new × Reads shift top (Delivered index label moment answer ∷ Repaired place at ∷ log)
  repair_pair events event log old mid new place at index moment label answer calm step delivery same now_too state =
      let repairs = repaired_step c old event place at mid step in
      let item = delivered_last old.wire mid.wire (Repair place, repairs.datagram) (label, delivery.datagram) at index repairs.wire repairs.index_is same delivery.there in
      let label_is : Repair place ≡ label = ap (λ (x : Item). x.0) item in
      let mid_calm : Calm (event ∷ events) (Repaired place at ∷ log) mid = record { answers = (old, calm.answers, step); honest = calm.honest; reads = calm.reads } in
      let entry = repairs.repairs.entry in
      let repair = repairs.repairs.repairs in
      let up = repair_up c met now shift p q top state.window old.sender mid.sender place entry repair state.ready in
      let near : IsWithin reach place top = subst (λ n. IsWithin reach place n) state.ready.highest (repair_near c met now shift p q top state.window old.sender mid.sender place entry repair state.ready) in
      let close : IsCloseTo (highest_taken log) (Some place) = subst (λ (o : Option ℕ). IsCloseTo o (Some place)) (sym calm.reads.0) (omega (arith, near.0), omega (arith, near.1)) in
      let heard : ReceivesSent c (Repaired place at ∷ log) (places_of mid) (Repair place) place moment answer (places_of new) =
      delivers (event ∷ events) (Repaired place at ∷ log) mid new index (Repair place) moment answer mid_calm close (subst (λ (l : Label). DeliversAt c mid index l moment answer new) (sym label_is) delivery) in
      let receives : ReceivesLabel c shift (stream_in c.receiver old.receiver (Repair place)) old.receiver place heard.content now heard.heard new.receiver =
      subst (λ (x : ℕ × Option ReceiverState × ℕ). ReceivesLabel c x.0 (stream_in c.receiver x.1 (Repair place)) x.1 place heard.content x.2 heard.heard new.receiver) (λ i. (calm.reads.1 i, repairs.receiver i, now_too i)) heard.receives in (
        repairs_heard old new place entry heard.content heard.heard (subst (λ (s : SenderState). Repairs old.sender place entry s) (sym heard.sender) repair) receives state,
        subst (λ (x : Label × Answer). Reads shift top (Delivered index x.0 moment x.1 ∷ Repaired place at ∷ log)) (λ i. (label_is i, sym heard.tells i))
            (reads_repair shift top (Repaired place at ∷ log) index moment place heard.heard up near calm.reads),
      )

  module _ (before : List Event) (past : List Entry) (start : WorldState) (answers : Answers c before past start) (honest : IsHonest past) (reads : Reads shift top past) (state : WhileAsking start) where
    asking : (added : List Entry) (events : List Event) (end : WorldState) → IsAsking now added → Adds c start events added end → WhileAsking end × Reads shift top (added ++ past)
    asking [] events end kind adds = (subst (λ (s : WorldState). WhileAsking s) (sym (none_added c start events end adds)) state, reads)
    asking (Delivered index label moment answer ∷ Asked at asked ∷ added) events end (same, now_too, now_is, kind) adds =
        let last = newest c start events (Delivered index label moment answer) (Asked at asked ∷ added) end adds in
        let first = newest c start last.events (Asked at asked) added last.old last.adds in
        let earlier = asking added first.events first.old kind first.adds in
        ask_pair (first.events ++ before) first.event (added ++ past) first.old last.old end at asked index moment label answer
        (record { answers = adds_answer c before past start answers first.events added first.old first.adds; honest = asking_honest now added past kind honest; reads = earlier.1 })
        first.step (delivered_step c last.old last.event index label moment answer end last.step) same now_too now_is earlier.0
    asking (entry ∷ added) events end kind adds = absurd kind

    repairing : (added : List Entry) (events : List Event) (end : WorldState) → IsRepairing now added → Adds c start events added end → WhileRepairing end × Reads shift top (added ++ past)
    repairing [] events end kind adds = absurd kind
    repairing (NoAsk asked ∷ added) events end (now_is, kind) adds =
        let last = newest c start events (NoAsk asked) added end adds in
        let earlier = asking added last.events last.old kind last.adds in
        let none = no_ask_step c last.old last.event asked end last.step in
        let due = subst (λ n. NoneDue c.receiver last.old.receiver n) now_is (none_due c.receiver asked last.old.receiver end.receiver none.0) in
        (subst (λ (s : WorldState). WhileRepairing s) (sym none.1) (asked_all last.old due earlier.0), earlier.1)
    repairing (Delivered index label moment answer ∷ Repaired place at ∷ added) events end (same, now_too, kind) adds =
        let last = newest c start events (Delivered index label moment answer) (Repaired place at ∷ added) end adds in
        let first = newest c start last.events (Repaired place at) added last.old last.adds in
        let earlier = repairing added first.events first.old kind first.adds in
        repair_pair (first.events ++ before) first.event (added ++ past) first.old last.old end place at index moment label answer
        (record { answers = adds_answer c before past start answers first.events added first.old first.adds; honest = repairing_honest now added past kind honest; reads = earlier.1 })
        first.step (delivered_step c last.old last.event index label moment answer end last.step) same now_too earlier.0
    repairing (entry ∷ added) events end kind adds = absurd kind

    pub round_done : (added : List Entry) (events : List Event) (end : WorldState) → IsRound now added → Adds c start events added end → ((v : ReceiverState) × (end.receiver ≡ Some v) × IsHere q v) × Reads shift top (added ++ past)
    round_done (NoRepair ∷ added) events end kind adds =
        let last = newest c start events NoRepair added end adds in
        let earlier = repairing added last.events last.old kind last.adds in
        let none = no_repair_step c last.old last.event end last.step in
        let done = earlier.0 in (
          (
            done.window,
            ap (λ (s : WorldState). s.receiver) none.1 ∙ done.started,
            ⊎_elim (λ (x : IsMarked p last.old.sender × WasAsked (done.window.missing q)). absurd (unmarked x.0.entry (none.0 p) x.0.kept x.0.marked)) (λ here. here) done.mended,
          ),
          earlier.1,
        )
      where
        unmarked : {o : Option HistoryEntry} (e : HistoryEntry) → is_marked o ≡ false → o ≡ Some e → e.marked ≡ true → ⊥
        unmarked {o} e none at m = let f = sym (ap is_marked at) ∙ none in let g = sym f ∙ m in absurd cc
    round_done added events end kind adds = absurd kind

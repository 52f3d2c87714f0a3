-- A round mends no place but those that were kept and below the limit.
use Rattle.std.proofs.Common.{◌≡◌, ℕ, ◌<◌, ◌≤◌, List, [], ◌∷◌, ◌++◌, Option, Some, sym, ap, subst, ◌∙◌, ⊎_elim, arith}
use Rattle.std.proofs.lemmas.Bool.{cases_eq}
use Rattle.std.proofs.lemmas.Bool.Decides.{nat_tests}
use Rattle.std.proofs.lemmas.Option.{none-some, same_Some}
use Rattle.stores.specs.declared.entry.HistoryEntry.{HistoryEntry}
use Rattle.sender.specs.History.{SenderState, Repairs}
use Rattle.receiver.specs.Window.{ReceiverState}
use Rattle.world.specs.declared.event.Event.{Event}
use Rattle.world.specs.declared.event.Label.{Label}
use Rattle.world.specs.declared.event.Label.TheVariants.{Media, Repair, Feedback}
use Rattle.world.specs.declared.event.Answer.{Answer}
use Rattle.world.specs.declared.event.Entry.{Entry}
use Rattle.world.specs.declared.event.Entry.TheVariants.{Repaired, NoRepair, Asked, NoAsk, Delivered}
use Rattle.world.specs.Config.{Config, IsConfig, sending}
use Rattle.world.specs.Labels.{place_of}
use Rattle.world.specs.Answers.{Item, WorldState, DeliversAt, Answers}
use Rattle.world.specs.Reading.{repairs_of}
use Rattle.world.specs.Reach.{shift_of, IsReached}
use Rattle.world.specs.Close.{IsClose, IsHonest}
use Rattle.world.specs.PlaceRun.{places_of}
use Rattle.world.specs.Round.{Adds, IsAsking, IsRepairing, IsRound, IsAwaited, IsMendable, IsMended}
use Rattle.world.proofs.Order.{AnyHearing}
use Rattle.world.proofs.Kept.{KeptBy, Keeps}
use Rattle.world.proofs.Marked.{was_found}
use Rattle.world.proofs.Repeats.{counted}
use Rattle.world.proofs.Right.{goes}
use Rattle.world.proofs.Simulates.{Laws, simulates}
use Rattle.world.proofs.Spans.{SpansAny, spans_all}
use Rattle.world.proofs.Ready.{due_missing}
use Rattle.world.proofs.Rounds.{kept_after}
use Rattle.world.proofs.Steps.{adds_answer, newest, none_added, asked_step, no_ask_step, repaired_step, delivered_step, delivered_last}

-- the history has an entry of the place
abbrev Has : ℕ → WorldState → Type 0
Has place s = (entry : HistoryEntry) × (s.sender.entries place ≡ Some entry)

has_as : (place : ℕ) (old new : WorldState) → new.sender ≡ old.sender → Has place new → Has place old
has_as place old new is (entry, at) = (entry, sym (ap (λ (h : SenderState). h.entries place) is) ∙ at)

sender_is : (old new : WorldState) → new ≡ old → new.sender ≡ old.sender
sender_is old new is = ap (λ (s : WorldState). s.sender) is

has_repaired : (place repaired : ℕ) (entry : HistoryEntry) (old new : WorldState) → Repairs old.sender repaired entry new.sender → Has place new → Has place old
has_repaired place repaired entry old new t (e, at) =
    ⊎_elim
    (λ (here : place ≡ repaired). let h : Has place old = (entry, ap old.sender.entries here ∙ t.was) in h)
    (λ other. (e, sym (t.others place other) ∙ at))
    (cases_eq place repaired)

-- the log tells one retransmission more of the place
abbrev OneMore : (place : ℕ) (past grown : List Entry) → Type 0
OneMore place past grown = repairs_of place past < repairs_of place grown

module _ (laws : Laws) (c : Config) where
  has_delivered : (place : ℕ) (old new : WorldState) (index : ℕ) (label : Label) (now : ℕ) (answer : Answer) → DeliversAt c old index label now answer new → Has place new → Has place old
  has_delivered place old new index (Media p) now answer step has = has_as place old new step.hears.sender has
  has_delivered place old new index (Repair p) now answer step has = has_as place old new step.hears.sender has
  has_delivered place old new index (Feedback pairs) now answer step (e, at) =
      let hears = step.hears in
      let found = was_found laws.decided (sending c) old.sender hears.heard new.sender (laws.any (sending c) old.sender step.datagram.items hears.heard new.sender hears.hears) place e at in
      (found.was, found.there)

  module _ (place now : ℕ) (start : WorldState) (past : List Entry) (unreached : IsReached past place → ⊥) where
    -- what a beginning of a round tells of the place
    record Tells (added : List Entry) (end : WorldState) : Type 0 where
      pub had : Has place end → Has place start
      pub least : repairs_of place past ≤ repairs_of place (added ++ past)
      pub reached : IsReached (added ++ past) place → OneMore place past (added ++ past) × Has place start

    asking : (added : List Entry) (events : List Event) (end : WorldState) → IsAsking now added → Adds c start events added end → Tells added end
    asking [] events end kind adds =
        record { had = has_as place start end (sender_is start end (none_added c start events end adds)); least = omega arith; reached = λ r. absurd (unreached r) }
    asking (Delivered index label moment answer ∷ Asked at asked ∷ added) events end (same, now_too, now_is, kind) adds =
        let last = newest c start events (Delivered index label moment answer) (Asked at asked ∷ added) end adds in
        let first = newest c start last.events (Asked at asked) added last.old last.adds in
        let earlier = asking added first.events first.old kind first.adds in
        let asks = asked_step c first.old first.event at asked last.old first.step in
        let delivery = delivered_step c last.old last.event index label moment answer end last.step in
        let item = delivered_last first.old.wire last.old.wire (Feedback asks.pairs, asks.datagram) (label, delivery.datagram) at index asks.wire asks.index_is same delivery.there in
        record {
          had = λ has. earlier.had (has_as place first.old last.old asks.sender (has_delivered place last.old end index label moment answer delivery has));
          least = earlier.least;
          reached = λ r. ⊎_elim
              (λ x. absurd (none-some place (ap (λ (y : Item). place_of y.0) item ∙ x.0)))
              (λ before. earlier.reached before)
              r;
        }
    asking (entry ∷ added) events end kind adds = absurd kind

    repairing : (added : List Entry) (events : List Event) (end : WorldState) → IsRepairing now added → Adds c start events added end → Tells added end
    repairing [] events end kind adds = absurd kind
    repairing (NoAsk asked ∷ added) events end (now_is, kind) adds =
        let last = newest c start events (NoAsk asked) added end adds in
        let earlier = asking added last.events last.old kind last.adds in
        let none = no_ask_step c last.old last.event asked end last.step in
        record { had = λ has. earlier.had (has_as place last.old end (sender_is last.old end none.1) has); least = earlier.least; reached = earlier.reached }
    repairing (Delivered index label moment answer ∷ Repaired p at ∷ added) events end (same, now_too, kind) adds =
        let last = newest c start events (Delivered index label moment answer) (Repaired p at ∷ added) end adds in
        let first = newest c start last.events (Repaired p at) added last.old last.adds in
        let earlier = repairing added first.events first.old kind first.adds in
        let repairs = repaired_step c first.old first.event p at last.old first.step in
        let delivery = delivered_step c last.old last.event index label moment answer end last.step in
        let item = delivered_last first.old.wire last.old.wire (Repair p, repairs.datagram) (label, delivery.datagram) at index repairs.wire repairs.index_is same delivery.there in
        let entry = repairs.repairs.entry in
        let step = repairs.repairs.repairs in
        let more : repairs_of place (added ++ past) ≤ repairs_of place (Repaired p at ∷ (added ++ past)) = grind (arith, nat_tests) in
        let least = earlier.least in
        record {
          had = λ has. earlier.had (has_repaired place p entry first.old last.old step (has_delivered place last.old end index label moment answer delivery has));
          least = omega (arith, least, more);
          reached = λ r. ⊎_elim
              (λ x. let here : p ≡ place = same_Some p place (ap (λ (y : Item). place_of y.0) item ∙ x.0) in (one_more p at (added ++ past) here least, earlier.had (entry, ap first.old.sender.entries (sym here) ∙ step.was)))
              (λ before. let h = earlier.reached before in let n = h.0 in (omega (arith, n, more), h.1))
              r;
        }
      where
        one_more : (p at : ℕ) (grown : List Entry) → p ≡ place → repairs_of place past ≤ repairs_of place grown → repairs_of place past < repairs_of place (Repaired p at ∷ grown)
        one_more p at grown here least = grind (arith, nat_tests)
    repairing (entry ∷ added) events end kind adds = absurd kind

    round : (added : List Entry) (events : List Event) (end : WorldState) → IsRound now added → Adds c start events added end → IsReached (added ++ past) place → OneMore place past (added ++ past) × Has place start
    round (NoRepair ∷ added) events end kind adds = let last = newest c start events NoRepair added end adds in (repairing added last.events last.old kind last.adds).reached
    round added events end kind adds = absurd kind

module _ (any : AnyHearing) (laws : Laws) (c : Config) (met : IsConfig c) (before : List Event) (past : List Entry) (old : WorldState) (answers : Answers c before past old) (close : IsClose past) (honest : IsHonest past) where
  pub only_mends : (now : ℕ) (events : List Event) (added : List Entry) (new : WorldState) → IsRound now added → Adds c old events added new → IsClose (added ++ past) →
      (place : ℕ) → IsAwaited c (shift_of past) old place now → IsMended c (added ++ past) new place → IsMendable c (shift_of past) old place now
  only_mends now events added new kind adds after place a m = record { awaited = a; entry = found.1.0; kept = found.1.1; allowed = allowed }
    where
      kept_by : KeptBy c past a.window
      kept_by = subst (λ (r : Option ReceiverState). Keeps c past r) a.started (goes c past (places_of old) (simulates laws c met before past old answers close honest)).0

      unreached : IsReached past place → ⊥
      unreached r =
          let spans = subst (λ (r : Option ReceiverState). SpansAny c.window r) a.started (spans_all any c met.some_window before past old answers) in
          let missed = due_missing c now (a.window.missing a.own) a.due in
          let inside = spans.missing a.own missed.0 missed.1 in
          kept_by.reached a.own inside.0 (subst (λ n. IsReached past n) (sym a.at) r) inside.2

      reached : IsReached (added ++ past) place
      reached =
          let kept = kept_after laws c met before past old answers honest now events added new kind adds after m.window m.started in
          subst (λ n. IsReached (added ++ past) n) m.at (kept.came m.own m.content m.held)

      found : OneMore place past (added ++ past) × Has place old
      found = round laws c place now old past unreached added events new kind adds reached

      allowed : found.1.0.repeats < c.repeats
      allowed =
          let more = found.0 in
          let was = (counted laws.any laws.decided c before past old answers).kept place found.1.0 found.1.1 in
          let least = (counted laws.any laws.decided c (events ++ before) (added ++ past) new (adds_answer c before past old answers events added new adds)).each place in
          omega (arith, more, was.0, least)

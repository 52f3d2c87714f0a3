-- What the loops of a round cite: how it grows, entry by entry, that what was done is a beginning of it, and what each pair
-- of entries counts down.
use Rattle.std.proofs.Common.{◌≡◌, ℕ, ◌+◌, ◌<◌, List, [], ◌∷◌, ◌++◌, length, reverse, Option, Some, None, Result, Ok, Err, OnErr, refl, sym, ap, subst, ◌∙◌, arith, append_assoc, append-nil, length-append}
use Rattle.std.specs.Prelude.{MatchOption}
use Rattle.std.proofs.lemmas.List.{reverse-append, reverse-reverse}
use Rattle.sender.specs.History.{SenderState}
use Rattle.receiver.specs.Window.{ReceiverState}
use Rattle.world.specs.declared.event.Event.{Event}
use Rattle.world.specs.declared.event.Event.TheVariants.{Repair as Retransmit, Ask, Deliver}
use Rattle.world.specs.declared.event.Label.{Label}
use Rattle.world.specs.declared.event.Label.TheVariants.{Media, Repair, Feedback}
use Rattle.world.specs.declared.event.Answer.{Answer}
use Rattle.world.specs.declared.event.Answer.TheVariants.{Marked}
use Rattle.world.specs.declared.event.Entry.{Entry}
use Rattle.world.specs.declared.event.Entry.TheVariants.{Repaired, NoRepair, Asked, NoAsk, Nothing, Delivered}
use Rattle.world.specs.Config.{Config, IsConfig}
use Rattle.world.specs.Answers.{Item, WorldState, AsksTo, DeliversAt, Step, Answers}
use Rattle.world.specs.Round.{IsAsking, IsRepairing, IsRound, IsRoundBegun, GoesOn}
use Rattle.world.proofs.Order.{AnyHearing}
use Rattle.world.proofs.Faithful.{wired}
use Rattle.world.proofs.Repeats.{counted}
use Rattle.world.proofs.Simulates.{Laws, asked_by}
use Rattle.world.proofs.Spans.{spans_all}
use Rattle.world.proofs.Steps.{adds_answer, asked_step, delivered_step, delivered_last}
use Rattle.world.proofs.Totals.{asks_left, asks_fall, marks_left, repairs_fall}

-- nothing was done
pub goes_nowhere : (c : Config) (now : ℕ) (s : WorldState) (log : List Entry) → GoesOn c (IsAsking now) s s log log
goes_nowhere c now s log = record { events = []; added = []; kind = tt; adds = refl; log_is = sym (append-nil log) }

one_more : (log grown grown' : List Entry) (added : List Entry) (entry : Entry) → grown ≡ log ++ reverse added → grown' ≡ grown ++ entry ∷ [] → grown' ≡ log ++ reverse (entry ∷ added)
one_more log grown grown' added entry is more =
    more ∙ ap (λ (xs : List Entry). xs ++ entry ∷ []) is ∙ append_assoc log (reverse added) (entry ∷ []) ∙ ap (λ (xs : List Entry). log ++ xs) (sym (reverse-append (entry ∷ []) added))

-- one step more
pub goes_on : (c : Config) (IsKind IsNext : List Entry → Type 0) (old mid new : WorldState) (log grown grown' : List Entry) (event : Event) (entry : Entry) → GoesOn c IsKind old mid log grown → Step c mid event entry new →
    grown' ≡ grown ++ entry ∷ [] → ((added : List Entry) → IsKind added → IsNext (entry ∷ added)) → GoesOn c IsNext old new log grown'
goes_on c IsKind IsNext old mid new log grown grown' event entry on step more next =
    record { events = event ∷ on.events; added = entry ∷ on.added; kind = next on.added on.kind; adds = (mid, on.adds, step); log_is = one_more log grown grown' on.added entry on.log_is more }

-- what was done stays done where nothing changes
pub goes_same : (c : Config) (IsKind : List Entry → Type 0) (old mid new : WorldState) (log grown same : List Entry) → GoesOn c IsKind old mid log grown → new ≡ mid → same ≡ grown → GoesOn c IsKind old new log same
goes_same c IsKind old mid new log grown same on stand_is log_is = subst (λ (x : WorldState × List Entry). GoesOn c IsKind old x.0 log x.1) (λ i. (sym stand_is i, sym log_is i)) on

-- of another kind
pub goes_as : (c : Config) (IsKind IsOther : List Entry → Type 0) (old new : WorldState) (log grown : List Entry) → ((added : List Entry) → IsKind added → IsOther added) → GoesOn c IsKind old new log grown → GoesOn c IsOther old new log grown
goes_as c IsKind IsOther old new log grown other on = record { events = on.events; added = on.added; kind = other on.added on.kind; adds = on.adds; log_is = on.log_is }

-- the delivery of what was just put on the wire is a delivery
abbrev IsDeliveryOf : ℕ → ℕ → Entry → Type 0
IsDeliveryOf at now (Delivered index label moment answer) = (index ≡ at) × (moment ≡ now)
IsDeliveryOf at now entry = ⊥

is_delivery : (c : Config) (at now : ℕ) (wire : List Item) (item : Item) (mid new : WorldState) (entry : Entry) → mid.wire ≡ wire ++ item ∷ [] → at ≡ length wire → Step c mid (Deliver at now) entry new → IsDeliveryOf at now entry
is_delivery c at now wire item mid new Nothing grown at_end (past, same) = absurd (let h = length-append wire (item ∷ []) in let e = ap (λ (xs : List Item). length xs) grown in omega (arith, h, e, past, at_end))
is_delivery c at now wire item mid new (Delivered index label moment answer) grown at_end (same, now_too, step) = (same, now_too)
is_delivery c at now wire item mid new entry grown at_end never = absurd never

-- an ask, and the delivery of its datagram
pub asks_heard : (c : Config) (now at : ℕ) (entry : Entry) (old mid made new : WorldState) (log grown grown' grown'' : List Entry) → GoesOn c (IsAsking now) old mid log grown → Step c mid (Ask now) (Asked at now) made →
    grown' ≡ grown ++ Asked at now ∷ [] → Step c made (Deliver at now) entry new → grown'' ≡ grown' ++ entry ∷ [] → GoesOn c (IsAsking now) old new log grown''
asks_heard c now at entry old mid made new log grown grown' grown'' on step more step' more' =
    goes_on c (λ added. IsAsking now (entry ∷ added)) (IsAsking now) old made new log grown' grown'' (Deliver at now) entry half step' more' (λ added kind. kind)
  where
    asks : AsksTo c mid now at made
    asks = asked_step c mid (Ask now) at now made step

    heard : (e : Entry) → IsDeliveryOf at now e → (added : List Entry) → IsAsking now added → IsAsking now (e ∷ Asked at now ∷ added)
    heard (Delivered index label moment answer) h added kind = (h.0, h.1, refl, kind)
    heard e h added kind = absurd h

    half : GoesOn c (λ added. IsAsking now (entry ∷ added)) old made log grown'
    half = goes_on c (IsAsking now) (λ added. IsAsking now (entry ∷ added)) old mid made log grown grown' (Ask now) (Asked at now) on step more
        (heard entry (is_delivery c at now mid.wire (Feedback asks.pairs, asks.datagram) made new entry asks.wire asks.index_is step'))

-- nothing more is due
pub asks_end : (c : Config) (now : ℕ) (old mid new : WorldState) (log grown grown' : List Entry) → GoesOn c (IsAsking now) old mid log grown → Step c mid (Ask now) (NoAsk now) new → grown' ≡ grown ++ NoAsk now ∷ [] → GoesOn c (IsRepairing now) old new log grown'
asks_end c now old mid new log grown grown' on step more = goes_on c (IsAsking now) (IsRepairing now) old mid new log grown grown' (Ask now) (NoAsk now) on step more (λ added kind. (refl, kind))

-- a retransmission, and the delivery of its datagram
pub repairs_heard : (c : Config) (now place at : ℕ) (entry : Entry) (old mid made new : WorldState) (log grown grown' grown'' : List Entry) → GoesOn c (IsRepairing now) old mid log grown → Step c mid Retransmit (Repaired place at) made →
    grown' ≡ grown ++ Repaired place at ∷ [] → Step c made (Deliver at now) entry new → grown'' ≡ grown' ++ entry ∷ [] → GoesOn c (IsRepairing now) old new log grown''
repairs_heard c now place at entry old mid made new log grown grown' grown'' on step more step' more' =
    goes_on c (λ added. IsRepairing now (entry ∷ added)) (IsRepairing now) old made new log grown' grown'' (Deliver at now) entry half step' more' (λ added kind. kind)
  where
    heard : (e : Entry) → IsDeliveryOf at now e → (added : List Entry) → IsRepairing now added → IsRepairing now (e ∷ Repaired place at ∷ added)
    heard (Delivered index label moment answer) h added kind = (h.0, h.1, kind)
    heard e h added kind = absurd h

    half : GoesOn c (λ added. IsRepairing now (entry ∷ added)) old made log grown'
    half = goes_on c (IsRepairing now) (λ added. IsRepairing now (entry ∷ added)) old mid made log grown grown' Retransmit (Repaired place at) on step more
        (heard entry (is_delivery c at now mid.wire (Repair place, step.datagram) made new entry step.wire step.index_is step'))

-- nothing more is marked
pub repairs_end : (c : Config) (now : ℕ) (old mid new : WorldState) (log grown grown' : List Entry) → GoesOn c (IsRepairing now) old mid log grown → Step c mid Retransmit NoRepair new → grown' ≡ grown ++ NoRepair ∷ [] → GoesOn c (IsRound now) old new log grown'
repairs_end c now old mid new log grown grown' on step more = goes_on c (IsRepairing now) (IsRound now) old mid new log grown grown' Retransmit NoRepair on step more (λ added kind. kind)

-- what was done when memory ran out, with the entries that were left to do
pub asking_begun : (now : ℕ) (added : List Entry) → IsAsking now added → IsRoundBegun now added
asking_begun now added kind = (NoRepair ∷ NoAsk now ∷ [], (refl, kind))

pub repairing_begun : (now : ℕ) (added : List Entry) → IsRepairing now added → IsRoundBegun now added
repairing_begun now added kind = (NoRepair ∷ [], kind)

-- a round leaves open what a delivery is labelled and answered
some_answer : Answer
some_answer = Marked (record { places = 0 })

pub ask_begun : (now at : ℕ) (added : List Entry) → IsAsking now added → IsRoundBegun now (Asked at now ∷ added)
ask_begun now at added kind = (NoRepair ∷ NoAsk now ∷ Delivered at (Media 0) now some_answer ∷ [], (refl, (refl, refl, refl, kind)))

pub repair_begun : (now place at : ℕ) (added : List Entry) → IsRepairing now added → IsRoundBegun now (Repaired place at ∷ added)
repair_begun now place at added kind = (NoRepair ∷ Delivered at (Repair place) now some_answer ∷ [], (refl, refl, kind))

module _ (any : AnyHearing) (laws : Laws) (c : Config) (met : IsConfig c) (events : List Event) (log : List Entry) (start : WorldState) (answers : Answers c events (reverse log) start) where
  -- an ask and its delivery leave fewer places to be asked for
  pub ask_falls : (now at : ℕ) (entry : Entry) (grown : List Entry) (mid made new : WorldState) → GoesOn c (IsAsking now) start mid log grown → Step c mid (Ask now) (Asked at now) made → Step c made (Deliver at now) entry new →
      asks_left c now new.receiver < asks_left c now mid.receiver
  ask_falls now at entry grown mid made new on step step' = by entry (is_delivery c at now mid.wire (Feedback asks.pairs, asks.datagram) made new entry asks.wire asks.index_is step') step'
    where
      asks : AsksTo c mid now at made
      asks = asked_step c mid (Ask now) at now made step

      fewer : asks_left c now made.receiver < asks_left c now mid.receiver
      fewer =
          asks_fall c now asks.pairs.items mid.receiver made.receiver met.receiver.retry
          (spans_all any c met.some_window (on.events ++ events) (on.added ++ reverse log) mid (adds_answer c events (reverse log) start answers on.events on.added mid on.adds))
          (asked_by laws.one_nack c now at mid made asks mid.receiver asks.asks)

      same_receiver : (label : Label) (index : ℕ) (answer : Answer) → Feedback asks.pairs ≡ label → DeliversAt c made index label now answer new → new.receiver ≡ made.receiver
      same_receiver label index answer is delivery = (subst (λ (l : Label). DeliversAt c made index l now answer new) (sym is) delivery).hears.receiver

      by : (e : Entry) → IsDeliveryOf at now e → Step c made (Deliver at now) e new → asks_left c now new.receiver < asks_left c now mid.receiver
      by (Delivered index label moment answer) h step' =
          let delivery = subst (λ n. DeliversAt c made index label n answer new) h.1 (delivered_step c made (Deliver at now) index label moment answer new step') in
          let item = delivered_last mid.wire made.wire (Feedback asks.pairs, asks.datagram) (label, delivery.datagram) at index asks.wire asks.index_is h.0 delivery.there in
          subst (λ (r : Option ReceiverState). asks_left c now r < asks_left c now mid.receiver) (sym (same_receiver label index answer (ap (λ (x : Item). x.0) item) delivery)) fewer
      by e h step' = absurd h

  -- a retransmission and its delivery leave fewer marks
  pub repair_falls : (now place at : ℕ) (entry : Entry) (grown : List Entry) (mid made new : WorldState) → GoesOn c (IsRepairing now) start mid log grown → Step c mid Retransmit (Repaired place at) made → Step c made (Deliver at now) entry new →
      marks_left c new.sender < marks_left c mid.sender
  repair_falls now place at entry grown mid made new on step step' = by entry (is_delivery c at now mid.wire (Repair place, step.datagram) made new entry step.wire step.index_is step') step'
    where
      run : Answers c (on.events ++ events) (on.added ++ reverse log) mid
      run = adds_answer c events (reverse log) start answers on.events on.added mid on.adds

      fewer : marks_left c made.sender < marks_left c mid.sender
      fewer =
          repairs_fall c place step.repairs.entry mid.sender made.sender
          ((counted laws.any laws.decided c (on.events ++ events) (on.added ++ reverse log) mid run).kept place step.repairs.entry step.repairs.repairs.was).2
          ((wired laws.any laws.decided laws.one_nack c met (on.events ++ events) (on.added ++ reverse log) mid run).kept place step.repairs.entry step.repairs.repairs.was).1
          step.repairs.repairs

      same_sender : (label : Label) (index : ℕ) (answer : Answer) → Repair place ≡ label → DeliversAt c made index label now answer new → new.sender ≡ made.sender
      same_sender label index answer is delivery = (subst (λ (l : Label). DeliversAt c made index l now answer new) (sym is) delivery).hears.sender

      by : (e : Entry) → IsDeliveryOf at now e → Step c made (Deliver at now) e new → marks_left c new.sender < marks_left c mid.sender
      by (Delivered index label moment answer) h step' =
          let delivery = subst (λ n. DeliversAt c made index label n answer new) h.1 (delivered_step c made (Deliver at now) index label moment answer new step') in
          let item = delivered_last mid.wire made.wire (Repair place, step.datagram) (label, delivery.datagram) at index step.wire step.index_is h.0 delivery.there in
          subst (λ (s : SenderState). marks_left c s < marks_left c mid.sender) (sym (same_sender label index answer (ap (λ (x : Item). x.0) item) delivery)) fewer
      by e h step' = absurd h

-- a log with one entry more
pub one_longer : (log grown : List Entry) (entry : Entry) → grown ≡ log ++ entry ∷ [] → length grown ≡ length log + 1
one_longer log grown entry more = let h = ap (λ (xs : List Entry). length xs) more in omega (arith, h, length-append log (entry ∷ []))

pub on_err : {T E : Type 0} (r : Result T E) (P : Type 0) → P → OnErr r P
on_err (Ok x) P p = tt
on_err (Err e) P p = p

pub at_none : {A : Type 0} (o : Option A) (P : Type 0) (Q : A → Type 0) → ((x : A) → o ≡ Some x → ⊥) → MatchOption o P Q → P
at_none None P Q other h = h
at_none (Some x) P Q other h = absurd (other x refl)

-- the log of a round, newest first
pub back : (log grown added : List Entry) → grown ≡ log ++ reverse added → reverse grown ≡ added ++ reverse log
back log grown added is = ap reverse is ∙ reverse-append log (reverse added) ∙ ap (λ (xs : List Entry). xs ++ reverse log) (reverse-reverse added)

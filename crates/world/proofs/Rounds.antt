-- The law of a round, put together.
use Rattle.std.proofs.Common.{◌≡◌, ℕ, ◌+◌, ◌-◌, List, ◌∷◌, ◌++◌, Option, Some, None, IsSome, IsSomeAnd, arith, sym, ap, refl, subst, ◌∙◌, inl, inr}
use Rattle.rtpwire.specs.declared.content.Content.{Content}
use Rattle.receiver.specs.Window.{ReceiverState}
use Rattle.world.specs.declared.event.Event.{Event}
use Rattle.world.specs.declared.event.Entry.{Entry}
use Rattle.world.specs.declared.event.Entry.TheVariants.{NoRepair}
use Rattle.world.specs.Config.{Config, IsConfig}
use Rattle.world.specs.Answers.{WorldState, Answers}
use Rattle.world.specs.Reach.{highest_taken, shift_of}
use Rattle.world.specs.Reading.{WasSent}
use Rattle.world.specs.Close.{IsClose, IsHonest}
use Rattle.world.specs.PlaceRun.{places_of}
use Rattle.world.specs.Round.{Adds, IsRound, IsUpTo, IsMarkedUpTo, IsMendable, IsMended}
use Rattle.world.proofs.Order.{AnyHearing}
use Rattle.world.proofs.Faithful.{wired}
use Rattle.world.proofs.Kept.{KeptBy, Keeps}
use Rattle.world.proofs.Repeats.{counted}
use Rattle.world.proofs.Right.{goes}
use Rattle.world.proofs.Simulates.{Laws, simulates}
use Rattle.world.proofs.Spans.{Spans, SpansAny, spans_all}
use Rattle.world.proofs.Ready.{Ready, due_missing}
use Rattle.world.proofs.Mends.{repairing_honest, round_done}
use Rattle.world.proofs.Steps.{adds_answer}

-- a round injects nothing
pub round_honest : (now : ℕ) (added past : List Entry) → IsRound now added → IsHonest past → IsHonest (added ++ past)
round_honest now (NoRepair ∷ added) past kind honest = repairing_honest now added past kind honest
round_honest now added past kind honest = absurd kind

-- what a receiver keeps after a round that leaves the log close
pub kept_after : (laws : Laws) (c : Config) → IsConfig c → (before : List Event) (past : List Entry) (old : WorldState) → Answers c before past old → IsHonest past → (now : ℕ) (events : List Event) (added : List Entry) (new : WorldState) → IsRound now added → Adds c old events added new →
    IsClose (added ++ past) → (w : ReceiverState) → new.receiver ≡ Some w → KeptBy c (added ++ past) w
kept_after laws c met before past old answers honest now events added new round adds close w is =
    let after = adds_answer c before past old answers events added new adds in
    let run = simulates laws c met (events ++ before) (added ++ past) new after close (round_honest now added past round honest) in
    subst (λ (r : Option ReceiverState). Keeps c (added ++ past) r) is (goes c (added ++ past) (places_of new) run).0

held_some : (o : Option Content) → IsSome o → (content : Content) × (o ≡ Some content)
held_some None never = absurd cc
held_some (Some content) held = (content, refl)

module _ (any : AnyHearing) (laws : Laws) (c : Config) (met : IsConfig c) (before : List Event) (past : List Entry) (old : WorldState) (answers : Answers c before past old)
    (close : IsClose past) (honest : IsHonest past) (marks : IsMarkedUpTo (highest_taken past) old.sender) (place now : ℕ) (m : IsMendable c (shift_of past) old place now) where
  kept_by : KeptBy c past m.awaited.window
  kept_by = subst (λ (r : Option ReceiverState). Keeps c past r) m.awaited.started (goes c past (places_of old) (simulates laws c met before past old answers close honest)).0

  spans_by : Spans c.window m.awaited.window
  spans_by = subst (λ (r : Option ReceiverState). SpansAny c.window r) m.awaited.started (spans_all any c met.some_window before past old answers)

  ready : Ready c (shift_of past) place m.awaited.own (m.awaited.window.highest + shift_of past) m.awaited.window old.sender
  ready =
      let missed = due_missing c now (m.awaited.window.missing m.awaited.own) m.awaited.due in
      let inside = spans_by.missing m.awaited.own missed.0 missed.1 in
      let count = counted laws.any laws.decided c before past old answers in
      let wire = wired laws.any laws.decided laws.one_nack c met before past old answers in
      record {
        at = m.awaited.at;
        highest = refl;
        spans = spans_by;
        from_cursor = inside.0;
        below = inside.1;
        cycles = kept_by.cycles;
        whole = kept_by.whole;
        sent = (count.kept place m.entry m.kept).2;
        last = (wire.kept place m.entry m.kept).1;
        kept = λ k e is. ((wire.kept k e is).1, (count.kept k e is).2);
        marks = λ k e is marked. let h : IsUpTo (Some (m.awaited.window.highest + shift_of past)) k = subst (λ (o : Option ℕ). IsUpTo o k) kept_by.highest (marks k e is marked) in h;
      }

  pub mends : (events : List Event) (added : List Entry) (new : WorldState) → IsRound now added → Adds c old events added new → IsMended c (added ++ past) new place × IsClose (added ++ past)
  mends events added new round adds =
      let done =
      round_done laws c met now (shift_of past) place m.awaited.own (m.awaited.window.highest + shift_of past) before past old answers honest (kept_by.highest, refl, close)
      (record { window = m.awaited.window; started = m.awaited.started; ready = ready; asked = inl m.awaited.due; wanted = inr (record { due = m.awaited.due; entry = m.entry; kept = m.kept; allowed = m.allowed }) })
      added events new round adds in
      let at : m.awaited.own + shift_of (added ++ past) ≡ place = ap (λ n. m.awaited.own + n) done.1.1 ∙ m.awaited.at in
      let kept = kept_after laws c met before past old answers honest now events added new round adds done.1.2 done.0.0 done.0.1 in
      let held = held_some (done.0.0.held m.awaited.own) done.0.2 in
      let sent = subst (λ n. WasSent c (added ++ past) n held.0) at (kept.sent m.awaited.own held.0 held.1) in
      (record { window = done.0.0; started = done.0.1; own = m.awaited.own; at = at; content = held.0; held = held.1; sent = sent }, done.1.2)

-- what is mended is held at the receiver's own place
pub mended_held : (c : Config) (past : List Entry) (new : WorldState) (place : ℕ) → IsMended c past new place → IsSomeAnd new.receiver (λ w. (content : Content) × (w.held (place - shift_of past) ≡ Some content) × WasSent c past place content)
mended_held c past new place m =
    let own : m.own ≡ place - shift_of past = let at = m.at in omega (arith, at) in
    subst (λ (r : Option ReceiverState). IsSomeAnd r (λ w. (content : Content) × (w.held (place - shift_of past) ≡ Some content) × WasSent c past place content)) (sym m.started)
    (m.content, ap m.window.held (sym own) ∙ m.held, m.sent)

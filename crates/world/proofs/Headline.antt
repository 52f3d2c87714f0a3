-- The headline, put together.
use Rattle.std.proofs.Common.{◌≡◌, ℕ, suc, ◌-◌, List, [], ◌∷◌, ◌++◌, length, take, drop, reverse, refl, sym, ap, subst, ◌∙◌, arith}
use Rattle.std.proofs.lemmas.List.{reverse-append, reverse-reverse, take-append-drop, length-reverse, length-drop}
use Rattle.world.specs.declared.event.Event.{Event}
use Rattle.world.specs.declared.event.Entry.{Entry}
use Rattle.world.specs.declared.event.Entry.TheVariants.{Sent, SendRefused, Repaired, NoRepair, Asked, NoAsk, Nothing, Delivered, Injected, Played}
use Rattle.world.specs.Config.{Config, IsConfig}
use Rattle.world.specs.Answers.{WorldState, Answers}
use Rattle.world.specs.Close.{IsClose, IsHonest, IsUninjected}
use Rattle.world.specs.Good.{IsGood, PlaysRightly}
use Rattle.world.specs.PlaceRun.{places_of}
use Rattle.world.proofs.Asking.{NamesListed}
use Rattle.world.proofs.AskedRuns.{asks_rightly}
use Rattle.world.proofs.Order.{AnyHearing, ordered}
use Rattle.world.proofs.Right.{goes, shift_is_whole}
use Rattle.world.proofs.Simulates.{Laws, simulates}

-- each event has one entry
as_many : (c : Config) (events : List Event) (past : List Entry) (end : WorldState) → Answers c events past end → length events ≡ length past
as_many c [] [] end answers = refl
as_many c [] (entry ∷ past) end never = absurd never
as_many c (event ∷ events) [] end never = absurd never
as_many c (event ∷ events) (entry ∷ past) end (old, answers, step) = ap suc (as_many c events past old answers)

-- without as many of the last events and of the last entries, what came before answers the events before
before : (c : Config) (last first : List Event) (later earlier : List Entry) (end : WorldState) → length last ≡ length later → Answers c (last ++ first) (later ++ earlier) end →
    (mid : WorldState) × Answers c first earlier mid
before c [] first [] earlier end same answers = (end, answers)
before c [] first (entry ∷ later) earlier end same answers = absurd (omega (arith, same))
before c (event ∷ last) first [] earlier end same answers = absurd (omega (arith, same))
before c (event ∷ last) first (entry ∷ later) earlier end same (old, answers, step) = before c last first later earlier old (omega (arith, same)) answers

-- a list, its last part first
parted : {A : Type 0} (n : ℕ) (xs : List A) → reverse xs ≡ reverse (drop n xs) ++ reverse (take n xs)
parted n xs = ap reverse (sym (take-append-drop n xs)) ∙ reverse-append (take n xs) (drop n xs)

-- the first n entries answer the first n events
first_answers : (c : Config) (events : List Event) (log : List Entry) (end : WorldState) (n : ℕ) → Answers c (reverse events) (reverse log) end → (mid : WorldState) × Answers c (reverse (take n events)) (reverse (take n log)) mid
first_answers c events log end n answers =
    let count = sym (length-reverse events) ∙ as_many c (reverse events) (reverse log) end answers ∙ length-reverse log in
    let same = length-reverse (drop n events) ∙ length-drop n events ∙ ap (λ k. k - n) count ∙ sym (length-drop n log) ∙ sym (length-reverse (drop n log)) in
    before c (reverse (drop n events)) (reverse (take n events)) (reverse (drop n log)) (reverse (take n log)) end same
    (subst (λ (x : List Event × List Entry). Answers c x.0 x.1 end) (λ i. (parted n events i, parted n log i)) answers)

module _ (any : AnyHearing) (laws : Laws) (names : NamesListed) where
  pub good : (c : Config) → IsConfig c → (events : List Event) (past : List Entry) (end : WorldState) → Answers c events past end → IsClose past → IsHonest past → IsGood c past end
  good c met events past end answers close honest =
      let run = simulates laws c met events past end answers close honest in
      let plays = goes c past (places_of end) run in
      let order = ordered any c events past end answers in
      record {
        run = run;
        shift = shift_is_whole c past end.receiver plays.0;
        rising = order.rising;
        final = order.final;
        right = plays.1.0;
        justified = plays.1.1;
        asks = asks_rightly names c met past (places_of end) run;
        refusals = plays.1.2;
      }

  pub plays_rightly : (c : Config) → IsConfig c → (events : List Event) (log : List Entry) (end : WorldState) → Answers c events (reverse log) end → PlaysRightly c log end
  plays_rightly c met events log end answers =
      record {
        logged = record { events = reverse events; answers = subst (λ (x : List Event). Answers c x (reverse log) end) (sym (reverse-reverse events)) answers };
        whole = good c met events (reverse log) end answers;
        beginnings = λ others answered n close honest.
            let begun = first_answers c others log end n answered in
            (begun.0, begun.1, good c met (reverse (take n others)) (reverse (take n log)) begun.0 begun.1 close honest);
      }

-- a log with no injection is honest
pub honest : (past : List Entry) → IsUninjected past → IsHonest past
honest [] none = tt
honest (Sent place index content ∷ past) none = honest past none
honest (SendRefused fault ∷ past) none = honest past none
honest (Repaired place index ∷ past) none = honest past none
honest (NoRepair ∷ past) none = honest past none
honest (Asked index now ∷ past) none = honest past none
honest (NoAsk now ∷ past) none = honest past none
honest (Nothing ∷ past) none = honest past none
honest (Delivered index label now answer ∷ past) none = honest past none
honest (Injected end now answer ∷ past) none = absurd none
honest (Played now answer ∷ past) none = honest past none

-- What an entry says of the step that it tells, and what is added to a log.
use Rattle.std.proofs.Common.{◌≡◌, ℕ, List, [], ◌∷◌, ◌++◌, length, Some, None, refl, sym, ap, subst, ◌∙◌}
use Rattle.std.specs.Prelude.{slice_get}
use Rattle.std.proofs.lemmas.Option.{same_Some}
use Rattle.sender.specs.History.{NoneMarked}
use Rattle.receiver.specs.Asks.{AsksAny}
use Rattle.world.specs.declared.event.Event.{Event}
use Rattle.world.specs.declared.event.Event.TheVariants.{Repair as Retransmit, Ask, Deliver}
use Rattle.world.specs.declared.event.Label.{Label}
use Rattle.world.specs.declared.event.Answer.{Answer}
use Rattle.world.specs.declared.event.Entry.{Entry}
use Rattle.world.specs.declared.event.Entry.TheVariants.{Repaired, NoRepair, Asked, NoAsk, Delivered}
use Rattle.world.specs.Config.{Config}
use Rattle.world.specs.Answers.{Item, WorldState, RepairsTo, AsksTo, DeliversAt, Step, Answers}
use Rattle.world.specs.Round.{Adds}

-- what is added to a log answers events too
pub adds_answer : (c : Config) (before : List Event) (past : List Entry) (start : WorldState) → Answers c before past start → (events : List Event) (added : List Entry) (end : WorldState) → Adds c start events added end → Answers c (events ++ before) (added ++ past) end
adds_answer c before past start answers [] [] end is = subst (λ (s : WorldState). Answers c before past s) (sym is) answers
adds_answer c before past start answers (event ∷ events) (entry ∷ added) end (mid, adds, step) = (mid, adds_answer c before past start answers events added mid adds, step)
adds_answer c before past start answers [] (entry ∷ added) end never = absurd never
adds_answer c before past start answers (event ∷ events) [] end never = absurd never

-- the newest entry, and the world before it
pub record Newest (c : Config) (start : WorldState) (entry : Entry) (added : List Entry) (end : WorldState) : Type 0 where
  pub event : Event
  pub events : List Event
  pub old : WorldState
  pub adds : Adds c start events added old
  pub step : Step c old event entry end

pub newest : (c : Config) (start : WorldState) (events : List Event) (entry : Entry) (added : List Entry) (end : WorldState) → Adds c start events (entry ∷ added) end → Newest c start entry added end
newest c start [] entry added end never = absurd never
newest c start (event ∷ events) entry added end (mid, adds, step) = record { event = event; events = events; old = mid; adds = adds; step = step }

pub none_added : (c : Config) (start : WorldState) (events : List Event) (end : WorldState) → Adds c start events [] end → end ≡ start
none_added c start [] end is = is
none_added c start (event ∷ events) end never = absurd never

pub asked_step : (c : Config) (old : WorldState) (event : Event) (at moment : ℕ) (new : WorldState) → Step c old event (Asked at moment) new → AsksTo c old moment at new
asked_step c old (Ask now) at moment new (now_is, step) = subst (λ n. AsksTo c old n at new) (sym now_is) step
asked_step c old event at moment new never = absurd never

pub no_ask_step : (c : Config) (old : WorldState) (event : Event) (moment : ℕ) (new : WorldState) → Step c old event (NoAsk moment) new → AsksAny c.receiver old.receiver moment None new.receiver × (new ≡ old)
no_ask_step c old (Ask now) moment new (now_is, why, is) = (subst (λ n. AsksAny c.receiver old.receiver n None new.receiver) (sym now_is) why, is)
no_ask_step c old event moment new never = absurd never

pub repaired_step : (c : Config) (old : WorldState) (event : Event) (place at : ℕ) (new : WorldState) → Step c old event (Repaired place at) new → RepairsTo c old place at new
repaired_step c old Retransmit place at new step = step
repaired_step c old event place at new never = absurd never

pub no_repair_step : (c : Config) (old : WorldState) (event : Event) (new : WorldState) → Step c old event NoRepair new → NoneMarked old.sender × (new ≡ old)
no_repair_step c old Retransmit new (why, is) = (why.0, is)
no_repair_step c old event new never = absurd never

pub delivered_step : (c : Config) (old : WorldState) (event : Event) (index : ℕ) (label : Label) (moment : ℕ) (answer : Answer) (new : WorldState) → Step c old event (Delivered index label moment answer) new → DeliversAt c old index label moment answer new
delivered_step c old (Deliver i now) index label moment answer new (at, now_is, step) = subst (λ (x : ℕ × ℕ). DeliversAt c old x.0 label x.1 answer new) (λ j. (sym at j, sym now_is j)) step
delivered_step c old event index label moment answer new never = absurd never

last_item : (wire : List Item) (item : Item) → slice_get (wire ++ item ∷ []) (length wire) ≡ Some item
last_item [] item = refl
last_item (other ∷ wire) item = last_item wire item

-- what was just put on the wire is what is delivered there
pub delivered_last : (wire grown : List Item) (item there : Item) (at index : ℕ) → grown ≡ wire ++ item ∷ [] → at ≡ length wire → index ≡ at → slice_get grown index ≡ Some there → item ≡ there
delivered_last wire grown item there at index grows at_end same get =
    same_Some item there (sym (last_item wire item) ∙ sym (ap (λ n. slice_get (wire ++ item ∷ []) n) (same ∙ at_end)) ∙ sym (ap (λ (w : List Item). slice_get w index) grows) ∙ get)

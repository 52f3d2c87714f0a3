-- A run goes on by one event.
use Rattle.std.proofs.Common.{◌≡◌, ℕ, ◌+◌, ◌<◌, Bool, ◌-◌, List, [], ◌∷◌, ◌++◌, length, get_or, slice_get, take, reverse, Option, Some, sym, ap, subst, ◌∙◌, refl, arith}
use Rattle.std.proofs.lemmas.List.{take_more, reverse-append, length-append}
use Rattle.world.specs.declared.event.Event.{Event}
use Rattle.world.specs.declared.event.Entry.{Entry}
use Rattle.world.specs.Config.{Config}
use Rattle.world.specs.Answers.{WorldState, Step, Answers}
use Rattle.world.specs.Close.{TellsCloseness}
use Rattle.world.specs.World.{IsLogged}

-- one more event, as code appends it
pub answers_more : (c : Config) (events : List Event) (log : List Entry) (old new : WorldState) (event : Event) (entry : Entry) →
    Answers c (reverse events) (reverse log) old → Step c old event entry new → Answers c (reverse (events ++ event ∷ [])) (reverse (log ++ entry ∷ [])) new
answers_more c events log old new event entry before step =
    subst (λ (x : List Event). Answers c x (reverse (log ++ entry ∷ [])) new) (sym (reverse-append events (event ∷ [])))
    (subst (λ (x : List Entry). Answers c (event ∷ reverse events) x new) (sym (reverse-append log (entry ∷ []))) (old, before, step))

pub run_more : (c : Config) (events : List Event) (i : ℕ) (d : Event) (log log' : List Entry) (entry : Entry) (old new : WorldState) → i < length events → log' ≡ log ++ entry ∷ [] →
    Answers c (reverse (take i events)) (reverse log) old → Step c old (get_or events i d) entry new → Answers c (reverse (take (i + 1) events)) (reverse log') new
run_more c events i d log log' entry old new within is before step =
    subst (λ (x : List Event). Answers c (reverse x) (reverse log') new) (sym (take_more events i d within))
    (subst (λ (x : List Entry). Answers c (reverse (take i events ++ get_or events i d ∷ [])) (reverse x) new) (sym is)
    (answers_more c (take i events) log old new (get_or events i d) entry before step))

-- a log after a push to it, once it has room
pub pushed : (log reserved log' : List Entry) (entry : Entry) → log' ≡ reserved ++ entry ∷ [] → reserved ≡ log → log' ≡ log ++ entry ∷ []
pushed log reserved log' entry push same = push ∙ ap (λ (x : List Entry). x ++ entry ∷ []) same

last_of : (before : List Entry) (entry : Entry) → slice_get (before ++ entry ∷ []) (length before) ≡ Some entry
last_of [] entry = refl
last_of (x ∷ before) entry = last_of before entry

-- the entry that was pushed is the log's last one
pub last_is : (before log : List Entry) (entry : Entry) → log ≡ before ++ entry ∷ [] → Some entry ≡ slice_get log (length log - 1)
last_is before log entry is =
    let long = length-append before (entry ∷ []) in
    let last : length (before ++ entry ∷ []) - 1 ≡ length before = omega (arith, long) in
    sym (subst (λ (x : List Entry). slice_get x (length x - 1) ≡ Some entry) (sym is) (ap (slice_get (before ++ entry ∷ [])) last ∙ last_of before entry))

-- a log that answers some events goes on to do so
pub logged_more : (c : Config) (log log' : List Entry) (entry : Entry) (event : Event) (old new : WorldState) →
    IsLogged c log old → log' ≡ log ++ entry ∷ [] → Step c old event entry new → IsLogged c log' new
logged_more c log log' entry event old new was is step =
    record {
      events = was.events ++ event ∷ [];
      answers = subst (λ (x : List Entry). Answers c (reverse (was.events ++ event ∷ [])) (reverse x) new) (sym is) (answers_more c was.events log old new event entry was.answers step);
    }

-- what is kept of a log goes on to tell of it
pub tells_more : (highest : Option ℕ) (holds : Bool) (log log' : List Entry) (entry : Entry) → log' ≡ log ++ entry ∷ [] → TellsCloseness highest holds (entry ∷ reverse log) → TellsCloseness highest holds (reverse log')
tells_more highest holds log log' entry is tells =
    subst (λ (past : List Entry). TellsCloseness highest holds past) (sym (ap reverse is ∙ reverse-append log (entry ∷ []))) tells

-- The log of a run answers events, move by move.
use Rattle.std.proofs.Common.{◌≡◌, ℕ, zero, suc, ◌+◌, ◌-◌, List, [], ◌∷◌, ◌++◌, length, reverse, Option, Some, None, refl, sym, ap, subst, ◌∙◌, append-nil, append_assoc}
use Rattle.std.proofs.lemmas.List.{reverse-append}
use Rattle.rand_core.specs.Stream.{Stream, next_u32}
use Rattle.rand_core.specs.Steps.{first_words}
use Rattle.arrayvec.specs.ArrayVec.{ArrayVec}
use Rattle.world.specs.declared.event.End.{End}
use Rattle.world.specs.declared.event.Event.{Event}
use Rattle.world.specs.declared.event.Entry.{Entry}
use Rattle.world.specs.Config.{Config}
use Rattle.world.specs.Answers.{WorldState, Step, Answers}
use Rattle.world.specs.Round.{Adds}
use Rattle.world.specs.Schedule.{schedule, after_words}
use Rattle.world.specs.World.{IsLogged}
use Rattle.runs.specs.declared.link.Transfer.{Transfer}
use Rattle.runs.specs.Scene.{Scene, new_scene, Happens, Does}
use Rattle.runs.specs.Playing.{Plays}
use Rattle.runs.specs.Exchange.{Injects}
use Rattle.runs.specs.Drive.{Plan, Phase, sending, asking, repairing, playing, done, handing, Moves, Goes}
use Rattle.runs.specs.Soak.{IsBlock, Blocks}

abbrev pub Logged : Config → Scene → Type 0
Logged c s = IsLogged c s.log s.stand

pub new_logged : (c : Config) → Logged c (new_scene c)
new_logged c = record { events = []; answers = refl }

same_logged : (c : Config) (old new : Scene) → new ≡ old → Logged c old → Logged c new
same_logged c old new same was = subst (λ (s : Scene). Logged c s) (sym same) was

step_logged : (c : Config) (log grown : List Entry) (event : Event) (entry : Entry) (old new : WorldState) → IsLogged c log old → Step c old event entry new → grown ≡ log ++ entry ∷ [] → IsLogged c grown new
step_logged c log grown event entry old new was step more =
    record {
      events = was.events ++ event ∷ [];
      answers =
          subst (λ (xs : List Event). Answers c xs (reverse grown) new) (sym (reverse-append was.events (event ∷ [])))
          (subst (λ (xs : List Entry). Answers c (event ∷ reverse was.events) xs new) (sym (ap reverse more ∙ reverse-append log (entry ∷ []))) (old, was.answers, step));
    }

happens_logged : (c : Config) (old : Scene) (event : Event) (entry : Entry) (new : Scene) → Logged c old → Happens c old event entry new → Logged c new
happens_logged c old event entry new was h = step_logged c old.log new.log event entry old.stand new.stand was h.step h.log

-- ---- over a link

injects_logged : (c : Config) (to : End) (now : ℕ) (came : Option (ArrayVec ℕ)) (old new : Scene) → Logged c old → Injects c to now came old new → Logged c new
injects_logged c to now None old new was same = same_logged c old new same was
injects_logged c to now (Some octets) old new was (entry, happens) = happens_logged c old _ entry new was happens

moves_logged : (c : Config) (plan : Plan) (phase next : Phase) (old new : Scene) (moved : List Transfer) → Logged c old → Moves c plan phase old moved next new → Logged c new
moves_logged c plan (sending number) next old new moved was a = happens_logged c old _ a.entry new was a.happens
moves_logged c plan (asking round) next old new moved was a = happens_logged c old _ a.entry new was a.happens
moves_logged c plan (repairing round) next old new moved was a = happens_logged c old _ a.entry new was a.happens
moves_logged c plan playing next old new moved was a = happens_logged c old _ a.entry new was a.happens
moves_logged c plan done next old new moved was never = absurd never
moves_logged c plan (handing to index now after) next old new moved was (hands, is) = injects_logged c to now hands.came old new was hands.injects

pub goes_logged : (c : Config) (plan : Plan) (count : ℕ) (phase next : Phase) (old new : Scene) (moved : List Transfer) → Logged c old → Goes c plan count phase old moved next new → Logged c new
goes_logged c plan zero phase next old new moved was (is, same, none) = same_logged c old new same was
goes_logged c plan (suc count) phase next old new moved was (mid, scene, first, last, before, move, whole) =
    moves_logged c plan mid next scene new last (goes_logged c plan count phase mid old scene first was before) move

-- ---- drawn

does_logged : (c : Config) (events : List Event) (old new : Scene) → Logged c old → Does c old events new → Logged c new
does_logged c [] old new was same = same_logged c old new same was
does_logged c (event ∷ events) old new was (entry, mid, happens, rest) = does_logged c events mid new (happens_logged c old event entry mid was happens) rest

adds_logged : (c : Config) (log : List Entry) (events : List Event) (added : List Entry) (old new : WorldState) → IsLogged c log old → Adds c old events added new → IsLogged c (log ++ reverse added) new
adds_logged c log [] [] old new was same = subst (λ (xs : List Entry). IsLogged c xs new) (sym (append-nil log)) (subst (λ (s : WorldState). IsLogged c log s) (sym same) was)
adds_logged c log [] (entry ∷ added) old new was never = absurd never
adds_logged c log (event ∷ events) [] old new was never = absurd never
adds_logged c log (event ∷ events) (entry ∷ added) old new was (mid, before, step) =
    step_logged c (log ++ reverse added) (log ++ reverse (entry ∷ added)) event entry mid new (adds_logged c log events added old mid was before) step
    (ap (λ (xs : List Entry). log ++ xs) (reverse-append (entry ∷ []) added) ∙ sym (append_assoc log (reverse added) (entry ∷ [])))

plays_logged : (c : Config) (now count : ℕ) (old new : Scene) → Logged c old → Plays c now count old new → Logged c new
plays_logged c now zero old new was same = same_logged c old new same was
plays_logged c now (suc count) old new was (mid, played, before, happens, goes_on) = happens_logged c mid _ _ new (plays_logged c now count old mid was before) happens

block_logged : (c : Config) (loss number : ℕ) (words : List ℕ) (old new : Scene) → Logged c old → IsBlock c loss number words old new → Logged c new
block_logged c loss number words old new was b =
    let sent = does_logged c (schedule loss (length old.stand.wire) number words) old b.sent was b.sends in
    let round = adds_logged c b.sent.log b.settles.events b.settles.added b.sent.stand b.settled.stand sent b.settles.adds in
    let settled : Logged c b.settled = subst (λ (xs : List Entry). IsLogged c xs b.settled.stand) (sym b.settles.log_is) round in
    happens_logged c b.plays.mid _ _ new (plays_logged c (number + length words - 1) b.plays.count b.settled b.plays.mid settled b.plays.plays) b.plays.waits

pub blocks_logged : (c : Config) (loss number : ℕ) (sizes : List ℕ) (stream : Stream) (old new : Scene) → Logged c old → Blocks c loss number sizes stream old new → Logged c new
blocks_logged c loss number [] stream old new was same = same_logged c old new same was
blocks_logged c loss number (size ∷ sizes) stream old new was (mid, block, rest) =
    blocks_logged c loss (number + size) sizes (after_words size stream) mid new (block_logged c loss number (first_words next_u32 size stream) old mid was block) rest

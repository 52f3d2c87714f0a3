-- What a run sees of a world, and how it goes on by events.
use Rattle.std.specs.Prelude.{◌≡◌, List, [], ◌∷◌, ◌++◌}
use Rattle.world.specs.declared.event.Event.{Event}
use Rattle.world.specs.declared.event.Entry.{Entry}
use Rattle.world.specs.Config.{Config}
use Rattle.world.specs.Answers.{WorldState, new_stand, Step}
use Rattle.world.specs.World.{Recorded, stand_of}

-- both ends and the wire, and the log, the oldest entry first
pub record Scene : Type 0 where
  pub stand : WorldState
  pub log : List Entry

abbrev pub scene_of : Recorded → Scene
scene_of w = record { stand = stand_of w; log = w.log }

-- nothing happened
abbrev pub new_scene : Config → Scene
new_scene c = record { stand = new_stand c; log = [] }

-- An event happened: its entry is the answer of its end, and the log has it as its last.
pub record Happens (c : Config) (old : Scene) (event : Event) (entry : Entry) (new : Scene) : Type 0 where
  pub step : Step c old.stand event entry new.stand
  pub log : new.log ≡ old.log ++ entry ∷ []

-- these events happened, one after the other
abbrev pub Does : Config → Scene → List Event → Scene → Type 0
Does c old [] new = new ≡ old
Does c old (event ∷ events) new = (entry : Entry) × (mid : Scene) × Happens c old event entry mid × Does c mid events new

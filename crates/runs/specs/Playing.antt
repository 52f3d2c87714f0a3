-- The receiver plays at one moment until it waits.
use Rattle.std.specs.Prelude.{◌≡◌, ℕ, zero, suc, Bool, true, false}
use Rattle.receiver.specs.declared.answer.Played.{Played}
use Rattle.receiver.specs.declared.answer.Played.TheVariants.{Packet, Gap, Wait}
use Rattle.world.specs.declared.event.Event.TheVariants.{Play}
use Rattle.world.specs.declared.event.Entry.TheVariants.{Played as Told}
use Rattle.world.specs.Config.{Config}
use Rattle.runs.specs.Scene.{Scene, Happens}

-- it did not wait
abbrev pub goes : Played → Bool
goes (Packet place content) = true
goes (Gap place) = true
goes Wait = false

-- it played so often, and never waited
abbrev pub Plays : Config → (now count : ℕ) → Scene → Scene → Type 0
Plays c now zero old new = new ≡ old
Plays c now (suc count) old new =
    (mid : Scene) × (played : Played) × Plays c now count old mid × Happens c mid (Play now) (Told now played) new × (goes played ≡ true)

-- it played so often, and then waits
pub record PlaysOut (c : Config) (now : ℕ) (old new : Scene) : Type 0 where
  pub count : ℕ
  pub mid : Scene
  pub plays : Plays c now count old mid
  pub waits : Happens c mid (Play now) (Told now Wait) new

-- How a scene goes on, step by step.
use Rattle.std.proofs.Common.{◌≡◌, ℕ, suc, true}
use Rattle.receiver.specs.declared.answer.Played.{Played}
use Rattle.world.specs.declared.event.Event.TheVariants.{Play}
use Rattle.world.specs.declared.event.Entry.TheVariants.{Played as Told}
use Rattle.world.specs.Config.{Config}
use Rattle.runs.specs.Scene.{Scene, Happens}
use Rattle.runs.specs.Playing.{goes, Plays}

-- once more
pub plays_more : (c : Config) (now : ℕ) (old mid new : Scene) → (count : ℕ) × Plays c now count old mid → (played : Played) × Happens c mid (Play now) (Told now played) new × (goes played ≡ true)
    → (count : ℕ) × Plays c now count old new
plays_more c now old mid new was step = (suc was.0, (mid, step.0, was.1, step.1, step.2))

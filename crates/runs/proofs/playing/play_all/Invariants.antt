use Rattle.std.proofs.Common.{◌≡◌, ℕ, length}
use Rattle.runs.specs.Scene.{scene_of}
use Rattle.runs.specs.Playing.{Plays}
use Rattle.runs.proofs.playing.play_all.Given as goal

-- it played so far, and never waited
abbrev pub invariant-loop : goal.invariant-loop
invariant-loop g l =
    record {
      config : l.world.config ≡ l.fn.world.config;
      plays : (count : ℕ) × Plays l.fn.world.config l.now count (scene_of l.fn.world) (scene_of l.world);
    }

-- each place that is played leaves the window
abbrev pub decreases-loop : goal.decreases-loop
decreases-loop g l = length l.world.receiver.span.slots

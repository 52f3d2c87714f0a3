use Rattle.std.proofs.Common.{◌-◌, ◌+◌, ◌≡◌, ◌≤◌}
use Rattle.rand_core.specs.Stream.{next_u32}
use Rattle.rand_core.specs.Steps.{first_words}
use Rattle.world.specs.Schedule.{after_words}
use Rattle.runs.specs.Scene.{Scene, scene_of}
use Rattle.runs.specs.Soak.{lost, IsSoak}
use Rattle.runs.proofs.soaking.soak_world.Given as goal

-- what is left from here makes the whole
abbrev pub invariant-loop-done : goal.invariant-loop-done
invariant-loop-done g l =
    record {
      config : l.world.config ≡ l.fn.world.config;
      most : l.done ≤ l.packets;
      fits : l.dropped ≤ l.done;
      whole : (end : Scene) → IsSoak l.fn.world.config l.loss l.done (l.packets - l.done) (g.R.Rng.stream l.rng) (scene_of l.world) end → IsSoak l.fn.world.config l.loss 0 l.packets (g.R.Rng.stream l.fn.rng) (scene_of l.fn.world) end;
      dropped : l.dropped + lost l.loss (first_words next_u32 (l.packets - l.done) (g.R.Rng.stream l.rng)) ≡ lost l.loss (first_words next_u32 l.packets (g.R.Rng.stream l.fn.rng));
      drawn : g.R.Rng.stream l.rng ≡ after_words l.done (g.R.Rng.stream l.fn.rng);
    }

abbrev pub decreases-loop-done : goal.decreases-loop-done
decreases-loop-done g l = l.packets - l.done

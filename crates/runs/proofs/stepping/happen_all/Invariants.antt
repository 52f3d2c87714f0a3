use Rattle.std.proofs.Common.{◌≡◌, drop}
use Rattle.runs.specs.Scene.{Scene, Does, scene_of}
use Rattle.runs.proofs.stepping.happen_all.Given as goal

-- what is left from here makes the whole
abbrev pub invariant-loop-event : goal.invariant-loop-event
invariant-loop-event g l =
    record {
      config : l.world.config ≡ l.fn.world.config;
      whole : (end : Scene) → Does l.fn.world.config (scene_of l.world) (drop l.event-index l.events) end → Does l.fn.world.config (scene_of l.fn.world) l.events end;
    }

use Rattle.std.proofs.Common.{◌≡◌}
use Rattle.runs.specs.Scene.{scene_of}
use Rattle.runs.specs.Drive.{Plan, round_from, Reaches}
use Rattle.runs.proofs.driving.mend.Given as goal

-- the rounds so far were done
abbrev pub invariant-loop-round : goal.invariant-loop-round
invariant-loop-round g l =
    record {
      config : l.world.config ≡ l.fn.world.config;
      failed : g.L.Link.failed l.link ≡ g.L.Link.failed l.fn.link;
      reaches : (plan : Plan) → plan.packets ≡ l.packets
          → Reaches l.fn.world.config plan (round_from 0) (scene_of l.fn.world) (g.L.Link.traffic l.fn.link) (round_from l.round) (scene_of l.world) (g.L.Link.traffic l.link);
    }

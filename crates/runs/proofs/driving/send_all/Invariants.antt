use Rattle.std.proofs.Common.{◌≡◌}
use Rattle.runs.specs.Scene.{scene_of}
use Rattle.runs.specs.Drive.{plan_of, send_from, Reaches}
use Rattle.runs.proofs.driving.send_all.Given as goal

-- the packets so far were sent
abbrev pub invariant-loop-number : goal.invariant-loop-number
invariant-loop-number g l =
    record {
      config : l.world.config ≡ l.fn.world.config;
      failed : g.L.Link.failed l.link ≡ g.L.Link.failed l.fn.link;
      reaches : Reaches l.fn.world.config (plan_of l.packets l.drop) (send_from (plan_of l.packets l.drop) 0) (scene_of l.fn.world) (g.L.Link.traffic l.fn.link)
          (send_from (plan_of l.packets l.drop) l.number) (scene_of l.world) (g.L.Link.traffic l.link);
    }

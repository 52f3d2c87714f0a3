use Rattle.std.proofs.Common.{◌≡◌, ℕ}
use Rattle.world.specs.World.{stand_of}
use Rattle.runs.specs.Scene.{scene_of}
use Rattle.runs.specs.Marks.{Covers, first_kept, marks}
use Rattle.runs.specs.Drive.{Plan, repairing, moment_of, Reaches}
use Rattle.runs.proofs.driving.repair_all.Given as goal

-- it is the same round still; the sender keeps no other places
abbrev pub invariant-loop : goal.invariant-loop
invariant-loop g l =
    record {
      config : l.world.config ≡ l.fn.world.config;
      failed : g.L.Link.failed l.link ≡ g.L.Link.failed l.fn.link;
      covers : Covers (first_kept l.fn.world.sender.past) l.fn.world.sender.past.capacity (stand_of l.world).sender;
      reaches : (plan : Plan) (round : ℕ) → moment_of plan round ≡ l.now
          → Reaches l.fn.world.config plan (repairing round) (scene_of l.fn.world) (g.L.Link.traffic l.fn.link) (repairing round) (scene_of l.world) (g.L.Link.traffic l.link);
    }

-- each retransmission takes a mark away
abbrev pub decreases-loop : goal.decreases-loop
decreases-loop g l = marks (first_kept l.fn.world.sender.past) l.fn.world.sender.past.capacity (stand_of l.world).sender

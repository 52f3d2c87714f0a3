use Rattle.std.proofs.Common.{◌≡◌, take, reverse}
use Rattle.world.specs.Answers.{Answers}
use Rattle.world.specs.World.{stand_of}
use Rattle.world.proofs.world.run.Given as goal

abbrev pub invariant-loop-event : goal.invariant-loop-event
invariant-loop-event g l = (l.world.config ≡ l.fn.config) × (l.world.receiver.span.capacity ≡ l.fn.config.window) × (l.world.sender.past.capacity ≡ l.fn.config.history) × Answers l.fn.config (reverse (take l.event-index l.events)) (reverse l.world.log) (stand_of l.world)

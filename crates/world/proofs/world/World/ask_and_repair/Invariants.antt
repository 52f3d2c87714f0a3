use Rattle.std.proofs.Common.{◌≡◌, ◌+◌, ◌*◌, ◌≤◌, length}
use Rattle.world.specs.Round.{IsAsking, IsRepairing, GoesOn}
use Rattle.world.specs.World.{stand_of}
use Rattle.world.proofs.Totals.{asks_left, marks_left}
use Rattle.world.proofs.world.World.ask_and_repair.Given as goal

abbrev pub invariant-loop-ask : goal.invariant-loop-ask
invariant-loop-ask g l = record {
  config : l.self.config ≡ l.fn.self.config;
  goes_on : GoesOn l.fn.self.config (IsAsking l.now) (stand_of l.fn.self) (stand_of l.self) l.fn.self.log l.self.log;
  told : length l.self.log ≡ length l.fn.self.log + l.count;
  counted : l.count + 2 * asks_left l.fn.self.config l.now (stand_of l.self).receiver ≤ 2 * l.fn.self.config.window;
}

abbrev pub decreases-loop-ask : goal.decreases-loop-ask
decreases-loop-ask g l = asks_left l.fn.self.config l.now (stand_of l.self).receiver

abbrev pub invariant-loop-repair : goal.invariant-loop-repair
invariant-loop-repair g l = record {
  config : l.self.config ≡ l.fn.self.config;
  goes_on : GoesOn l.fn.self.config (IsRepairing l.now) (stand_of l.fn.self) (stand_of l.self) l.fn.self.log l.self.log;
  told : length l.self.log ≡ length l.fn.self.log + l.count;
  counted : l.count + 2 * marks_left l.fn.self.config (stand_of l.self).sender ≤ 2 * l.fn.self.config.window + 2 * l.fn.self.config.history + 1;
}

abbrev pub decreases-loop-repair : goal.decreases-loop-repair
decreases-loop-repair g l = marks_left l.fn.self.config (stand_of l.self).sender

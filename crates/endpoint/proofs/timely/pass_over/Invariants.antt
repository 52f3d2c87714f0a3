use Rattle.std.proofs.Common.{◌≡◌, ◌-◌, ◌^◌, ◌≤◌}
use Rattle.sender.specs.Sender.{state_of}
use Rattle.endpoint.specs.Passing.{PassesBelow}
use Rattle.endpoint.proofs.timely.pass_over.Given as goal

abbrev pub invariant-loop-place : goal.invariant-loop-place
invariant-loop-place g l =
    record {
      passes : PassesBelow l.rule l.moments l.now l.from (state_of l.initial.endpoint.core) l.initial.passed (state_of l.endpoint.core) l.passed;
      within : l.from ≤ 2 ^ 48;
      config : l.endpoint.core.config ≡ l.initial.endpoint.core.config;
      capacity : l.endpoint.core.past.capacity ≡ l.initial.endpoint.core.past.capacity;
      counts : l.endpoint.counts ≡ l.initial.endpoint.counts;
    }

abbrev pub decreases-loop-place : goal.decreases-loop-place
decreases-loop-place g l = 2 ^ 48 - l.from

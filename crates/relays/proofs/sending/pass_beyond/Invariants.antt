use Rattle.std.proofs.Common.{◌≡◌, ◌-◌, ◌<◌, ◌≤◌, true}
use Rattle.sender.specs.Sender.{state_of}
use Rattle.relays.specs.Backlog.{is_beyond, less_by}
use Rattle.relays.specs.SendRelay.{PassesLeast}
use Rattle.relays.proofs.sending.pass_beyond.Given as goal

-- so many were passed over, each of them since there was no room for it
abbrev pub invariant-loop-endpoint : goal.invariant-loop-endpoint
invariant-loop-endpoint g l =
    record {
      passes : PassesLeast l.count (state_of l.initial.endpoint.endpoint.core) (state_of l.endpoint.endpoint.core);
      needed : 0 < l.count → is_beyond (less_by (l.count - 1) l.initial.backlog) l.room ≡ true;
      backlog : l.backlog ≡ less_by l.count l.initial.backlog;
      few : l.count ≤ l.initial.backlog.packets;
      config : l.endpoint.endpoint.core.config ≡ l.initial.endpoint.endpoint.core.config;
      capacity : l.endpoint.endpoint.core.past.capacity ≡ l.initial.endpoint.endpoint.core.past.capacity;
      counts : l.endpoint.endpoint.counts ≡ l.initial.endpoint.endpoint.counts;
      moments : l.endpoint.moments ≡ l.initial.endpoint.moments;
      rule : l.endpoint.rule ≡ l.initial.endpoint.rule;
      passed : l.endpoint.passed ≡ l.initial.endpoint.passed;
      none : l.count ≡ 0 → l.endpoint ≡ l.initial.endpoint;
    }

abbrev pub decreases-loop-endpoint : goal.decreases-loop-endpoint
decreases-loop-endpoint g l = l.backlog.packets

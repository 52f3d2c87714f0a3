use Rattle.std.proofs.Common.{◌≡◌}
use Rattle.fbwire.specs.CompoundReading.{nacks_in}
use Rattle.fbwire.specs.CompoundWalk.{CanWalk}
use Rattle.fbwire.proofs.compound.next_nack.Given as goal

-- no NACK was passed
abbrev pub invariant-loop-packet : goal.invariant-loop-packet
invariant-loop-packet l = record {
  walk : CanWalk l.packets.octets.now;
  same : nacks_in l.octets ≡ nacks_in l.packets.octets.now;
}

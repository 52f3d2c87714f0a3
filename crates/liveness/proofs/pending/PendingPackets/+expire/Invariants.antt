use Rattle.std.proofs.Common.{length}
use Rattle.liveness.proofs.pending.PendingPackets.+expire.Given as goal

abbrev pub decreases-expire : goal.decreases-expire
decreases-expire l = length l.self.now.packets.items

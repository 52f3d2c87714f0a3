use Rattle.std.proofs.Common.{arith}
use Rattle.world.proofs.PackedSteps.{as_many}
use Rattle.world.proofs.packed_wire.PackedWireWire.count.Goals as goal

pub returns-clause-count : goal.returns-clause-count
returns-clause-count c =
    let w = c.self.inside in
    let many = as_many w.octets.items w.slots.items w.trace.items c.self.invariant in
    rw (← c.self.view_is) (omega (arith, many))

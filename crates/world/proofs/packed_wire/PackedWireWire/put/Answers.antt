use Rattle.std.proofs.Common.{length, arith, refl}
use Rattle.world.proofs.PackedSteps.{all_put_so}
use Rattle.world.proofs.packed_wire.PackedWireWire.put.Goals as goal

pub invariant_of-self : goal.invariant_of-self
invariant_of-self c =
    let w = c.self.inside in
    all_put_so w.octets.items c.args.octets.now c.extend_from_slice.new.self.items w.slots.items c.push_reserved.new.self.items w.trace.items c.with-self-inside.result.items
    (record { start = c.len.result; len = length c.args.octets.now; kind = c.of.result }) c.args.label c.self.invariant
    (omega arith) refl c.of.ensures c.requires.pairs (rw c.unwrap.ensures at c.extend_from_slice.ensures.items) c.push_reserved.ensures.items c.with-self-inside.ensures

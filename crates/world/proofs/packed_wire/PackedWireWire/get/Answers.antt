use Rattle.std.proofs.Common.{arith, refl}
use Rattle.world.proofs.PackedSteps.{lies_at, as_many, found_at, found_item}
use Rattle.world.proofs.packed_wire.PackedWireWire.get.Goals as goal

pub overflow_add-octets : goal.overflow_add-octets
overflow_add-octets c =
    let w = c.self.inside in
    let found = c.in-Some.ensures.lookup in
    let is = found_at w.slots.items c.as_slice.result.now c.args.index c.in-Some.slot.now c.as_slice.ensures.value found.3.0 found.1 in
    let lies = lies_at w.octets.items w.slots.items w.trace.items c.args.index c.in-Some.slot.now c.self.invariant is in
    let within = lies.2.within in
    omega (arith, within, c.deref.ensures.len)

pub slice_bounds-octets-end : goal.slice_bounds-octets-end
slice_bounds-octets-end c =
    let w = c.self.inside in
    let found = c.in-Some.ensures.lookup in
    let is = found_at w.slots.items c.as_slice.result.now c.args.index c.in-Some.slot.now c.as_slice.ensures.value found.3.0 found.1 in
    let lies = lies_at w.octets.items w.slots.items w.trace.items c.args.index c.in-Some.slot.now c.self.invariant is in
    let within = lies.2.within in
    omega (arith, within, c.deref.ensures.len)

pub returns-in-None : goal.returns-in-None
returns-in-None c =
    let w = c.self.inside in
    let many = as_many w.octets.items w.slots.items w.trace.items c.self.invariant in
    let past = c.in-None.ensures.lookup.3 in
    rw (← c.self.view_is) (omega (arith, many, past, c.as_slice.ensures.len))

pub returns-in-Some : goal.returns-in-Some
returns-in-Some c =
    let w = c.self.inside in
    let found = c.in-Some.ensures.lookup in
    let is = found_at w.slots.items c.as_slice.result.now c.args.index c.in-Some.slot.now c.as_slice.ensures.value found.3.0 found.1 in
    let lies = lies_at w.octets.items w.slots.items w.trace.items c.args.index c.in-Some.slot.now c.self.invariant is in
    rw (← c.self.view_is) (found_item w.octets.items c.deref.result.now _ c.in-Some.slot.now lies.0 c.label.result w.trace.items c.args.index lies.2 c.deref.ensures.value refl c.label.ensures lies.1)

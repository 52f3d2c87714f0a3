use Rattle.world.proofs.SameWires.{same_wires, repairs_labelled}
use Rattle.world.proofs.laws.wires_are_determined.Goals as goal

pub returns : goal.returns
returns c = record { one = same_wires c.repair_is_determined.ensures.same c.nack_is_determined.ensures.one_spelling; repairs = repairs_labelled }

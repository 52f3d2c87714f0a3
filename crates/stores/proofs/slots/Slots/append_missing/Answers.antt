use Rattle.stores.proofs.CellSteps.{missing_added}
use Rattle.stores.proofs.slots.Slots.append_missing.Goals as goal

pub invariant_of-self : goal.invariant_of-self
invariant_of-self c =
    let fields = c.self.inside in
    missing_added fields.cells c.append.new.ring fields.contents.items fields.free.items _ _ c.args.self.now c.self.invariant c.self.view_is c.append.ensures.capacity c.args.now c.append.ensures.items c.requires

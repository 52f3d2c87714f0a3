use Rattle.std.proofs.Common.{refl}
use Rattle.stores.proofs.DueSlots.{due_of_slots}
use Rattle.stores.proofs.ring_window.RingWindowWindow.due_into.Goals as goal

pub returns-in-Some : goal.returns-in-Some
returns-in-Some c = due_of_slots _ _ _ c.args.self.now.slots.capacity _ _ _ _ _ _ c.in-Some.is refl c.due_among.ensures

use Rattle.stores.proofs.DueSlots.{due_of_slots}
use Rattle.stores.proofs.list_window.ListWindowWindow.due_into.Goals as goal

pub returns-in-Some : goal.returns-in-Some
returns-in-Some c = due_of_slots _ _ _ c.args.self.now.capacity _ _ _ _ _ _ c.in-Some.is c.as_slice.ensures.value c.due_from.ensures

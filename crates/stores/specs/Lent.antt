-- A slot that is lent.
use Rattle.stores.specs.declared.slot.Slot.{Slot}
use Rattle.stores.specs.declared.slot.Slot.TheVariants as slot
use Rattle.stores.specs.declared.slot.SlotRef.{SlotRef}
use Rattle.stores.specs.declared.slot.SlotRef.TheVariants.{Held, Missing}

-- the slot
abbrev pub slot_of : SlotRef → Slot
slot_of (Held content) = slot.Held content.now
slot_of (Missing noticed asks last) = slot.Missing noticed asks last

-- The due places of slots, of which the first is that of the place k.
use Rattle.std.specs.Prelude.{ℕ, ◌+◌, ◌-◌, List, length}
use Rattle.std.specs.List.{filter, range_with_len}
use Rattle.stores.specs.declared.slot.Slot.{Slot}
use Rattle.stores.specs.ByPlace.{slot_from}
use Rattle.stores.specs.Asking.{is_due}

-- those of all slots
abbrev pub due_from_first : (now delay retry limit k : ℕ) → List Slot → List ℕ
due_from_first now delay retry limit k slots = filter (λ q. is_due now delay retry limit (slot_from k slots q)) (range_with_len k (length slots))

-- those of the slots from the index i on
unfoldable pub due_rest : (now delay retry limit k : ℕ) → List Slot → ℕ → List ℕ
due_rest now delay retry limit k slots i = filter (λ q. is_due now delay retry limit (slot_from k slots q)) (range_with_len (k + i) (length slots - i))

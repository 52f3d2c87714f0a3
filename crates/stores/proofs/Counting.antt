-- How many places of a window are missing: as many as slots.
use Rattle.std.proofs.Common.{◌≡◌, ℕ, List, length, Option, Some, None, refl, ap, ◌∙◌}
use Rattle.std.specs.List.{filter}
use Rattle.std.specs.Option.{ForNone}
use Rattle.stores.specs.declared.slot.Slot.{Slot}
use Rattle.stores.specs.ByPlace.{slot_from}
use Rattle.stores.specs.Asking.{is_missing, missing_places}
use Rattle.stores.proofs.SlotPlaces.{slot_from_index}
use Rattle.stores.proofs.Passing.{passing_count}
use Rattle.std.proofs.lemmas.List.{nil_from_length}

pub count_of_slots : (cursor : Option ℕ) (slots : List Slot) (capacity : ℕ) → ForNone cursor (length slots ≡ 0) →
    length (missing_places (record { cursor = cursor; slots = slots; capacity = capacity })) ≡ length (filter (λ slot. is_missing (Some slot)) slots)
count_of_slots None slots capacity none = rw (nil_from_length slots (none refl)) refl
count_of_slots (Some k) slots capacity none =
    passing_count (λ q. is_missing (slot_from k slots q)) (λ slot. is_missing (Some slot)) k slots (λ i slot e. ap is_missing (slot_from_index k slots i ∙ e))

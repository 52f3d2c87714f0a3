-- The set of bits that tells which slots of a window are missing.
use Rattle.std.specs.Prelude.{◌≡◌, ℕ, List, length, Some}
use Rattle.std.specs.List.{filter}
use Rattle.stores.specs.declared.slot.Slot.{Slot}
use Rattle.stores.specs.Asking.{is_missing}
use Rattle.stores.specs.Bits.{IsSetOf, size_of}

-- how many of the slots are missing
abbrev pub count_missing : List Slot → ℕ
count_missing slots = length (filter (λ (slot : Slot). is_missing (Some slot)) slots)

-- the set has the positions of the missing slots, and as many members as there are
abbrev pub IsIndex : List ℕ → ℕ → List Slot → Type 0
IsIndex words front slots = IsSetOf is_missing words front slots × (size_of words ≡ count_missing slots)

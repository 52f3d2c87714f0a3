-- How datagrams lie packed, one behind the other.
use Rattle.std.specs.Prelude.{◌≡◌, ℕ, ◌+◌, ◌≤◌, List, [], ◌∷◌, length, take, drop}
use Rattle.world.specs.Answers.{Item}
use Rattle.world.specs.Pairs.{SpellsPairs}
use Rattle.world.specs.Kinds.{kind_of}
use Rattle.world.specs.declared.slot.Slot.{Slot}

-- a packed wire as its callers see it: what lies on it, and for how many octets and datagrams more it has room
pub record Packing : Type 0 where
  pub items : List Item
  pub octets_room : ℕ
  pub slots_room : ℕ

-- a datagram lies where its slot says, and its label is of the slot's kind
pub record Lies (octets : List ℕ) (slot : Slot) (item : Item) : Type 0 where
  pub within : slot.start + slot.len ≤ length octets
  pub octets_are : item.1.items ≡ take slot.len (drop slot.start octets)
  pub kind_is : slot.kind ≡ kind_of item.0
  pub spells : SpellsPairs item.0 item.1.items

-- each datagram lies in its slot
abbrev pub AllLie : List ℕ → List Slot → List Item → Type 0
AllLie octets [] [] = Unit {0}
AllLie octets (slot ∷ slots) (item ∷ items) = Lies octets slot item × AllLie octets slots items
AllLie octets [] (item ∷ items) = ⊥
AllLie octets (slot ∷ slots) [] = ⊥

-- How a ring window keeps its slots: cells that are small, and contents in buffers. A cell of a place that is held has the
-- number of its content's buffer; the numbers that no cell has are free.
use Rattle.std.specs.Prelude.{ℕ, ◌+◌, ◌<◌, ◌≤◌, List, [], ◌∷◌, ◌++◌, length, map, get_or, Option, Some, None}
use Rattle.circular_buffer.specs.Buffer.{Buffer}
use Rattle.rtpwire.specs.declared.content.Content.{Content}
use Rattle.rtpwire.specs.Content.{blank_content}
use Rattle.stores.specs.declared.cell.Cell.{Cell}
use Rattle.stores.specs.declared.cell.Cell.TheVariants.{Taken, Unseen}
use Rattle.stores.specs.declared.slot.Slot.{Slot}
use Rattle.stores.specs.declared.slot.Slot.TheVariants.{Held, Missing}
use Rattle.stores.specs.Numbers.{AreNumbers}

-- the slot that a cell is
abbrev pub slot_in : List Content → Cell → Slot
slot_in contents (Taken number) = Held (get_or contents number blank_content)
slot_in contents (Unseen asks noticed last) = Missing noticed asks last

abbrev pub slots_in : List Content → List Cell → List Slot
slots_in contents cells = map (slot_in contents) cells

-- the numbers that cells have
unfoldable pub numbers_of : List Cell → List ℕ
numbers_of [] = []
numbers_of (Taken number ∷ cells) = number ∷ numbers_of cells
numbers_of (Unseen asks noticed last ∷ cells) = numbers_of cells

-- Each buffer is one cell's or free, and no more than one of these: the numbers of the cells and the free ones are together
-- those of the buffers.
abbrev pub IsPool : List Cell → List Content → List ℕ → Type 0
IsPool cells contents free = AreNumbers (numbers_of cells ++ free) (length contents)

-- What is true of the slots of every ring window. There is memory for as many buffers, and free numbers, as cells.
pub record AreSlots (cells : Buffer Cell) (contents : List Content) (free : List ℕ) (contents_most free_most : ℕ) : Type 0 where
  pub pool : IsPool cells.items contents free
  pub few : length contents ≤ cells.capacity
  pub contents_room : cells.capacity ≤ contents_most
  pub free_room : cells.capacity ≤ free_most
  pub limit : cells.capacity ≤ 8192
  pub room : length cells.items ≤ cells.capacity

-- The buffers and the free numbers once there is a free one: where there was none, one buffer more.
abbrev pub grown_contents : List Content → List ℕ → List Content
grown_contents contents [] = contents ++ blank_content ∷ []
grown_contents contents (n ∷ free) = contents

abbrev pub grown_free : List Content → List ℕ → List ℕ
grown_free contents [] = length contents ∷ []
grown_free contents (n ∷ free) = n ∷ free

-- the free numbers once the buffer of this cell, if it has one, is free too
abbrev pub freed : List ℕ → Option Cell → List ℕ
freed free None = free
freed free (Some (Unseen asks noticed last)) = free
freed free (Some (Taken number)) = free ++ number ∷ []

-- one more ask may be counted
abbrev pub CanCellBeAsked : Cell → Type 0
CanCellBeAsked (Taken number) = ⊥
CanCellBeAsked (Unseen asks noticed last) = asks < 255

-- the cell after an ask at the moment `now`
abbrev pub asked_cell : ℕ → Cell → Cell
asked_cell now (Taken number) = Taken number
asked_cell now (Unseen asks noticed last) = Unseen (asks + 1) noticed now

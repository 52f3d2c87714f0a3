-- Slots in cells: what is read of them, and what is left when a cell that is no held one comes, when the first goes, and when
-- one is asked for.
use Rattle.std.proofs.Common.{◌≡◌, ℕ, zero, suc, ◌+◌, ◌<◌, ◌≤◌, ◌++◌, List, [], ◌∷◌, length, take, drop, get_or, slice_get, slice_set, true, Option, Some, None, ap, sym, subst, ◌∙◌, refl, arith, length-append, length-set, length-drop}
use Rattle.std.specs.Prelude.{IsSomeAnd}
use Rattle.std.specs.Option.{option_map}
use Rattle.std.proofs.lemmas.List.{map-set, drop-map}
use Rattle.std.proofs.lemmas.Option.{slice_get-map}
use Rattle.circular_buffer.specs.Buffer.{Buffer, buffer}
use Rattle.rtpwire.specs.declared.content.Content.{Content}
use Rattle.stores.specs.declared.cell.Cell.{Cell}
use Rattle.stores.specs.declared.cell.Cell.TheVariants.{Taken, Unseen}
use Rattle.stores.specs.declared.slot.Slot.{Slot}
use Rattle.stores.specs.declared.slot.Slot.TheVariants.{Missing}
use Rattle.stores.specs.Asking.{is_missing, CanBeAsked, asked_at}
use Rattle.stores.specs.Pool.{slot_in, slots_in, numbers_of, IsPool, AreSlots, freed, CanCellBeAsked, asked_cell}
use Rattle.stores.proofs.Numbers.{no_numbers}
use Rattle.stores.proofs.Pooled.{pool_count, pool_missing, pool_freed, pool_passed, pool_dropped, pool_asked}
use Rattle.stores.proofs.Filling.{same_pool, same_buffers, slot_count, Leaves}

-- no cells and no buffers
empty_pool : IsPool [] [] []
unfolding numbers_of
empty_pool = no_numbers

pub empty_slots : (ring : Buffer Cell) (contents : List Content) (free : List ℕ) (capacity most free_most : ℕ) → ring ≡ buffer [] capacity → contents ≡ [] → free ≡ [] → capacity ≤ 8192 → capacity ≤ most → capacity ≤ free_most
    → AreSlots ring contents free most free_most
empty_slots ring contents free capacity most free_most is none none_free limit enough enough_free =
    let size = ap (λ (b : Buffer Cell). b.capacity) is in
    let cells = ap (λ (b : Buffer Cell). b.items) is in
    let count = ap length cells in
    let few = ap length none in
    record {
      pool = same_pool [] ring.items [] contents [] free cells none none_free empty_pool;
      few = omega (arith, size, few);
      contents_room = omega (arith, size, enough);
      free_room = omega (arith, size, enough_free);
      limit = omega (arith, size, limit);
      room = omega (arith, size, count);
    }

-- the slot of a cell
pub slot_of_cell : (contents : List Content) (cells : List Cell) (i : ℕ) (cell : Cell) → slice_get cells i ≡ Some cell → slice_get (slots_in contents cells) i ≡ Some (slot_in contents cell)
slot_of_cell contents cells i cell found = slice_get-map (slot_in contents) cells i ∙ ap (option_map (slot_in contents)) found

pool_after : (cells : List Cell) (contents : List Content) (free : List ℕ) → IsPool cells contents free → 0 < length cells → IsPool (drop 1 cells) contents (freed free (slice_get cells 0))
pool_after [] contents free is some = absurd (omega arith)
pool_after (Taken n ∷ cells) contents free is some = pool_freed (Taken n ∷ cells) contents free n refl is
pool_after (Unseen asks noticed last ∷ cells) contents free is some = pool_passed (Unseen asks noticed last ∷ cells) contents free noticed asks last refl is

module _ (ring ring₂ : Buffer Cell) (contents : List Content) (free : List ℕ) (most free_most : ℕ) (before : Buffer Slot)
    (are : AreSlots ring contents free most free_most) (view : buffer (slots_in contents ring.items) ring.capacity ≡ before) (size : ring₂.capacity ≡ ring.capacity) where
  -- a cell without a number comes
  pub missing_added : (now : ℕ) → ring₂.items ≡ ring.items ++ Unseen 0 now 0 ∷ [] → length before.items < before.capacity
      → AreSlots ring₂ contents free most free_most
  missing_added now cells room =
      let count = sym (slot_count contents ring.items) ∙ ap (λ (b : Buffer Slot). length b.items) view in
      let fits = ap (λ (b : Buffer Slot). b.capacity) view in
      let longer = ap length cells ∙ length-append ring.items (Unseen 0 now 0 ∷ []) in
      let few = are.few in
      let enough = are.contents_room in
      let enough_free = are.free_room in
      let limit = are.limit in
      record {
        pool = same_pool (ring.items ++ Unseen 0 now 0 ∷ []) ring₂.items contents contents free free cells refl refl (pool_missing ring.items contents free now 0 0 are.pool);
        few = omega (arith, few, size);
        contents_room = omega (arith, size, enough);
        free_room = omega (arith, size, enough_free);
        limit = omega (arith, size, limit);
        room = omega (arith, longer, size, count, fits, room);
      }

  -- the first cell goes
  pub first_gone : (free₂ : List ℕ) (free_most₂ : ℕ) → free₂ ≡ freed free (slice_get ring.items 0) → free_most₂ ≡ free_most → ring₂.items ≡ drop 1 ring.items
      → 0 < length before.items → AreSlots ring₂ contents free₂ most free_most₂
  first_gone free₂ free_most₂ freed_is same_free cells some =
      let count = sym (slot_count contents ring.items) ∙ ap (λ (b : Buffer Slot). length b.items) view in
      let shorter = ap length cells ∙ length-drop 1 ring.items in
      let few = are.few in
      let enough = are.contents_room in
      let enough_free = are.free_room in
      let limit = are.limit in
      let room = are.room in
      record {
        pool = same_pool (drop 1 ring.items) ring₂.items contents contents (freed free (slice_get ring.items 0)) free₂ cells refl freed_is (pool_after ring.items contents free are.pool (omega (arith, count, some)));
        few = omega (arith, few, size);
        contents_room = omega (arith, size, enough);
        free_room = omega (arith, size, enough_free, same_free);
        limit = omega (arith, size, limit);
        room = omega (arith, shorter, size, room);
      }

  -- the first cells go
  pub cells_gone : (count : ℕ) (free₂ : List ℕ) (free_most₂ : ℕ) → free₂ ≡ free ++ numbers_of (take count ring.items) → free_most₂ ≡ free_most → ring₂.items ≡ drop count ring.items
      → AreSlots ring₂ contents free₂ most free_most₂
  cells_gone count free₂ free_most₂ freed_is same_free cells =
      let shorter = ap length cells ∙ length-drop count ring.items in
      let few = are.few in
      let enough = are.contents_room in
      let enough_free = are.free_room in
      let limit = are.limit in
      let room = are.room in
      record {
        pool = same_pool (drop count ring.items) ring₂.items contents contents (free ++ numbers_of (take count ring.items)) free₂ cells refl freed_is (pool_dropped ring.items contents free count are.pool);
        few = omega (arith, few, size);
        contents_room = omega (arith, size, enough);
        free_room = omega (arith, size, enough_free, same_free);
        limit = omega (arith, size, limit);
        room = omega (arith, shorter, size, room);
      }

  pub cells_gone_view : (count : ℕ) → ring₂.items ≡ drop count ring.items → buffer (slots_in contents ring₂.items) ring₂.capacity ≡ buffer (drop count before.items) before.capacity
  cells_gone_view count cells =
      let seen = ap (λ (b : Buffer Slot). b.items) view in
      let fits = ap (λ (b : Buffer Slot). b.capacity) view in
      same_buffers (ap (slots_in contents) cells ∙ sym (drop-map (slot_in contents) count ring.items) ∙ ap (drop count) seen) (size ∙ fits)

  -- a cell is asked for
  pub cell_asked : (i now : ℕ) (cell : Cell) → slice_get ring.items i ≡ Some cell → CanCellBeAsked cell → ring₂.items ≡ slice_set ring.items i (asked_cell now cell)
      → Leaves ring₂ contents free most free_most (buffer (asked_at before.items i now (slice_get before.items i)) before.capacity)
  cell_asked i now (Taken n) found can cells = absurd can
  cell_asked i now (Unseen asks noticed last) found can cells =
      let fits = ap (λ (b : Buffer Slot). b.capacity) view in
      let seen = ap (λ (b : Buffer Slot). b.items) view in
      let slot : slice_get before.items i ≡ Some (Missing noticed asks last) = ap (λ (s : List Slot). slice_get s i) (sym seen) ∙ slot_of_cell contents ring.items i (Unseen asks noticed last) found in
      let longer = ap length cells ∙ length-set ring.items i (Unseen (asks + 1) noticed now) in
      let few = are.few in
      let enough = are.contents_room in
      let enough_free = are.free_room in
      let limit = are.limit in
      let room = are.room in
      record {
        are = record {
          pool = same_pool (slice_set ring.items i (Unseen (asks + 1) noticed now)) ring₂.items contents contents free free cells refl refl
              (pool_asked ring.items contents free i noticed asks last noticed (asks + 1) now found are.pool);
          few = omega (arith, few, size);
          contents_room = omega (arith, size, enough);
          free_room = omega (arith, size, enough_free);
          limit = omega (arith, size, limit);
          room = omega (arith, longer, size, room);
        };
        view = same_buffers
            (ap (slots_in contents) cells ∙ map-set (slot_in contents) ring.items i (Unseen (asks + 1) noticed now)
            ∙ ap (λ (s : List Slot). slice_set s i (Missing noticed (asks + 1) now)) seen
            ∙ ap (λ (o : Option Slot). asked_at before.items i now o) (sym slot))
            (size ∙ fits);
      }

  -- a slot that may be asked for is a cell that may
  pub cell_can_be_asked : (i : ℕ) (cell : Cell) → slice_get ring.items i ≡ Some cell → IsSomeAnd (slice_get before.items i) CanBeAsked → CanCellBeAsked cell
  cell_can_be_asked i (Taken n) found can =
      subst (λ (o : Option Slot). IsSomeAnd o CanBeAsked) (ap (λ (b : Buffer Slot). slice_get b.items i) (sym view) ∙ slot_of_cell contents ring.items i (Taken n) found) can
  cell_can_be_asked i (Unseen asks noticed last) found can =
      subst (λ (o : Option Slot). IsSomeAnd o CanBeAsked) (ap (λ (b : Buffer Slot). slice_get b.items i) (sym view) ∙ slot_of_cell contents ring.items i (Unseen asks noticed last) found) can

-- a number is freed only where there is room for it
pub room_to_free : (cells : List Cell) (contents : List Content) (free : List ℕ) (n : ℕ) → IsPool cells contents free → slice_get cells 0 ≡ Some (Taken n) → length free < length contents
unfolding numbers_of
room_to_free [] contents free n is found = absurd cc
room_to_free (Unseen a b c ∷ cells) contents free n is found = absurd cc
room_to_free (Taken m ∷ cells) contents free n is found = let all = pool_count (Taken m ∷ cells) contents free is in omega arith

-- a cell whose place was not taken
pub record UnseenAt (cells : List Cell) (i : ℕ) : Type 0 where
  pub noticed : ℕ
  pub asks : ℕ
  pub last : ℕ
  pub found : slice_get cells i ≡ Some (Unseen asks noticed last)

unseen_in : (contents : List Content) (cells : List Cell) (i : ℕ) (o : Option Cell) → slice_get cells i ≡ o → is_missing (option_map (slot_in contents) o) ≡ true → UnseenAt cells i
unseen_in contents cells i None found missing = absurd cc
unseen_in contents cells i (Some (Taken n)) found missing = absurd cc
unseen_in contents cells i (Some (Unseen asks noticed last)) found missing = record { noticed = noticed; asks = asks; last = last; found = found }

pub unseen_at : (ring : Buffer Cell) (contents : List Content) (before : Buffer Slot) (i : ℕ) → buffer (slots_in contents ring.items) ring.capacity ≡ before → is_missing (slice_get before.items i) ≡ true → UnseenAt ring.items i
unseen_at ring contents before i view missing =
    unseen_in contents ring.items i (slice_get ring.items i) refl
    (ap is_missing (sym (slice_get-map (slot_in contents) ring.items i) ∙ ap (λ (b : Buffer Slot). slice_get b.items i) view) ∙ missing)

-- a cell
pub record CellAt (cells : List Cell) (i : ℕ) : Type 0 where
  pub cell : Cell
  pub found : slice_get cells i ≡ Some cell

cell_in : (contents : List Content) (cells : List Cell) (i : ℕ) (o : Option Cell) → slice_get cells i ≡ o → IsSomeAnd (option_map (slot_in contents) o) CanBeAsked → CellAt cells i
cell_in contents cells i None found can = absurd can
cell_in contents cells i (Some cell) found can = record { cell = cell; found = found }

pub cell_at : (ring : Buffer Cell) (contents : List Content) (before : Buffer Slot) (i : ℕ) → buffer (slots_in contents ring.items) ring.capacity ≡ before → IsSomeAnd (slice_get before.items i) CanBeAsked → CellAt ring.items i
cell_at ring contents before i view can =
    cell_in contents ring.items i (slice_get ring.items i) refl
    (subst (λ (o : Option Slot). IsSomeAnd o CanBeAsked) (sym (sym (slice_get-map (slot_in contents) ring.items i) ∙ ap (λ (b : Buffer Slot). slice_get b.items i) view)) can)

-- what is read of a buffer that is there does not depend on what would be read elsewhere
pub read_there : (contents : List Content) (n : ℕ) (d e : Content) → n < length contents → get_or contents n d ≡ get_or contents n e
read_there [] n d e there = absurd (omega arith)
read_there (c ∷ contents) zero d e there = refl
read_there (c ∷ contents) (suc n) d e there = read_there contents n d e (omega arith)

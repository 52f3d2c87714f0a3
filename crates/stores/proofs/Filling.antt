-- A slot that is held comes, in two steps: a buffer is made where none is free, and then the last free one is filled.
use Rattle.std.proofs.Common.{◌≡◌, ℕ, ◌<◌, ◌≤◌, ◌++◌, List, [], ◌∷◌, length, slice_get, slice_set, Some, All, ap, sym, subst, ◌∙◌, refl, arith, length-append, length-set}
use Rattle.std.proofs.lemmas.List.{length-map}
use Rattle.circular_buffer.specs.Buffer.{Buffer, buffer}
use Rattle.rtpwire.specs.declared.content.Content.{Content}
use Rattle.rtpwire.specs.Content.{blank_content}
use Rattle.stores.specs.declared.cell.Cell.{Cell}
use Rattle.stores.specs.declared.cell.Cell.TheVariants.{Taken, Unseen}
use Rattle.stores.specs.declared.slot.Slot.{Slot}
use Rattle.stores.specs.declared.slot.Slot.TheVariants.{Held}
use Rattle.stores.specs.Pool.{slot_in, slots_in, numbers_of, IsPool, AreSlots, grown_contents, grown_free}
use Rattle.stores.proofs.Pooled.{pool_count, pool_grown, slots_grown, pool_append, slots_append, pool_set, slots_set, held_le, held_lt, free_known}

pub same_pool : (cells cells' : List Cell) (contents contents' : List Content) (free free' : List ℕ) → cells' ≡ cells → contents' ≡ contents → free' ≡ free → IsPool cells contents free → IsPool cells' contents' free'
same_pool cells cells' contents contents' free free' a b c is =
    subst (λ x. IsPool x contents' free') (sym a) (subst (λ y. IsPool cells y free') (sym b) (subst (λ z. IsPool cells contents z) (sym c) is))

-- rings of slots with the same slots and room are one
pub same_buffers : {s t : List Slot} {m n : ℕ} → s ≡ t → m ≡ n → buffer s m ≡ buffer t n
same_buffers a b = cc

-- as many slots as cells
pub slot_count : (contents : List Content) (cells : List Cell) → length (slots_in contents cells) ≡ length cells
slot_count contents cells = length-map cells (slot_in contents)

-- where no buffer is free, there are as many as held places
pub all_used : (cells : List Cell) (contents : List Content) (free : List ℕ) → IsPool cells contents free → free ≡ [] → length contents ≡ length (numbers_of cells)
all_used cells contents free is none = let all = pool_count cells contents free is in let empty = ap length none in omega (arith, all, empty)

grown_few : (cells : List Cell) (contents : List Content) (free : List ℕ) (k : ℕ) → IsPool cells contents free → length contents ≤ k → length (numbers_of cells) < k → length (grown_contents contents free) ≤ k
grown_few cells contents [] k is few room = let all = pool_count cells contents [] is in let longer = length-append contents (blank_content ∷ []) in omega (arith, all, longer, room)
grown_few cells contents (n ∷ free) k is few room = few

-- the free numbers, once there is one, are those of buffers
pub grown_known : (cells : List Cell) (contents contents₁ : List Content) (free free₁ : List ℕ) → IsPool cells contents free → contents₁ ≡ grown_contents contents free → free₁ ≡ grown_free contents free
    → All (λ n. n < length contents₁) free₁
grown_known cells contents contents₁ free free₁ is a b = free_known cells contents₁ free₁ (same_pool cells cells (grown_contents contents free) contents₁ (grown_free contents free) free₁ refl a b (pool_grown cells contents free is))

-- the slots that are left: what is true of them, and which they are
pub record Leaves (ring : Buffer Cell) (contents : List Content) (free : List ℕ) (contents_most free_most : ℕ) (left : Buffer Slot) : Type 0 where
  pub are : AreSlots ring contents free contents_most free_most
  pub view : buffer (slots_in contents ring.items) ring.capacity ≡ left

-- the pool in which the last free number is n
before_fill : (cells : List Cell) (contents contents₁ : List Content) (free free₁ free₂ : List ℕ) (n : ℕ) → IsPool cells contents free → contents₁ ≡ grown_contents contents free → free₁ ≡ grown_free contents free
    → free₁ ≡ free₂ ++ n ∷ [] → IsPool cells contents₁ (free₂ ++ n ∷ [])
before_fill cells contents contents₁ free free₁ free₂ n is a b c =
    same_pool cells cells (grown_contents contents free) contents₁ (grown_free contents free) (free₂ ++ n ∷ []) refl a (sym c ∙ b) (pool_grown cells contents free is)

few_after : (cells : List Cell) (contents contents₁ contents₂ : List Content) (free : List ℕ) (n k : ℕ) (content : Content) → IsPool cells contents free → contents₁ ≡ grown_contents contents free
    → contents₂ ≡ slice_set contents₁ n content → length contents ≤ k → length (numbers_of cells) < k → length contents₂ ≤ k
few_after cells contents contents₁ contents₂ free n k content is a d few room =
    let same : length contents₂ ≡ length (grown_contents contents free) = ap length d ∙ length-set contents₁ n content ∙ ap length a in
    let most = grown_few cells contents free k is few room in
    omega (arith, same, most)

module _ (ring ring₂ : Buffer Cell) (contents contents₁ contents₂ : List Content) (free free₁ free₂ : List ℕ) (most most₂ free_most free_most₂ n : ℕ) (content : Content) (before : Buffer Slot)
    (are : AreSlots ring contents free most free_most) (view : buffer (slots_in contents ring.items) ring.capacity ≡ before)
    (grown : contents₁ ≡ grown_contents contents free) (freed : free₁ ≡ grown_free contents free) (taken : free₁ ≡ free₂ ++ n ∷ []) (filled : contents₂ ≡ slice_set contents₁ n content)
    (size : ring₂.capacity ≡ ring.capacity) (same_most : most₂ ≡ most) (same_free : free_most₂ ≡ free_most) where
  -- a new cell
  pub held_last : ring₂.items ≡ ring.items ++ Taken n ∷ [] → length before.items < before.capacity
      → Leaves ring₂ contents₂ free₂ most₂ free_most₂ (buffer (before.items ++ Held content ∷ []) before.capacity)
  held_last cells room =
      let pool = before_fill ring.items contents contents₁ free free₁ free₂ n are.pool grown freed taken in
      let count = sym (slot_count contents ring.items) ∙ ap (λ (b : Buffer Slot). length b.items) view in
      let fits = ap (λ (b : Buffer Slot). b.capacity) view in
      let held = held_le ring.items in
      let few = few_after ring.items contents contents₁ contents₂ free n ring.capacity content are.pool grown filled are.few (omega (arith, count, fits, held, room)) in
      let longer = ap length cells ∙ length-append ring.items (Taken n ∷ []) in
      let enough = are.contents_room in
      let enough_free = are.free_room in
      let limit = are.limit in
      record {
        are = record {
          pool = same_pool (ring.items ++ Taken n ∷ []) ring₂.items (slice_set contents₁ n content) contents₂ free₂ free₂ cells filled refl (pool_append ring.items contents₁ free₂ n content pool);
          few = omega (arith, few, size);
          contents_room = omega (arith, size, enough, same_most);
          free_room = omega (arith, size, enough_free, same_free);
          limit = omega (arith, size, limit);
          room = omega (arith, longer, size, count, fits, room);
        };
        view = same_buffers
            (ap (λ (x : List Content). slots_in x ring₂.items) filled ∙ ap (λ (x : List Cell). slots_in (slice_set contents₁ n content) x) cells
            ∙ slots_append ring.items contents₁ free₂ n content pool
            ∙ ap (λ (x : List Content). slots_in x ring.items ++ Held content ∷ []) grown
            ∙ ap (λ (s : List Slot). s ++ Held content ∷ []) (slots_grown contents free ring.items ∙ ap (λ (b : Buffer Slot). b.items) view))
            (size ∙ fits);
      }

  -- a cell that was there
  pub held_at : (i noticed asks last : ℕ) → slice_get ring.items i ≡ Some (Unseen asks noticed last) → ring₂.items ≡ slice_set ring.items i (Taken n)
      → Leaves ring₂ contents₂ free₂ most₂ free_most₂ (buffer (slice_set before.items i (Held content)) before.capacity)
  held_at i noticed asks last found cells =
      let pool = before_fill ring.items contents contents₁ free free₁ free₂ n are.pool grown freed taken in
      let fits = ap (λ (b : Buffer Slot). b.capacity) view in
      let held = held_lt ring.items i noticed asks last found in
      let room = are.room in
      let few = few_after ring.items contents contents₁ contents₂ free n ring.capacity content are.pool grown filled are.few (omega (arith, held, room)) in
      let longer = ap length cells ∙ length-set ring.items i (Taken n) in
      let enough = are.contents_room in
      let enough_free = are.free_room in
      let limit = are.limit in
      record {
        are = record {
          pool = same_pool (slice_set ring.items i (Taken n)) ring₂.items (slice_set contents₁ n content) contents₂ free₂ free₂ cells filled refl
              (pool_set ring.items contents₁ free₂ i n noticed asks last content found pool);
          few = omega (arith, few, size);
          contents_room = omega (arith, size, enough, same_most);
          free_room = omega (arith, size, enough_free, same_free);
          limit = omega (arith, size, limit);
          room = omega (arith, longer, size, room);
        };
        view = same_buffers
            (ap (λ (x : List Content). slots_in x ring₂.items) filled ∙ ap (λ (x : List Cell). slots_in (slice_set contents₁ n content) x) cells
            ∙ slots_set ring.items contents₁ free₂ i n content pool
            ∙ ap (λ (x : List Content). slice_set (slots_in x ring.items) i (Held content)) grown
            ∙ ap (λ (s : List Slot). slice_set s i (Held content)) (slots_grown contents free ring.items ∙ ap (λ (b : Buffer Slot). b.items) view))
            (size ∙ fits);
      }

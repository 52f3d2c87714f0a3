-- Cells, the buffers of their contents and the free ones, when a buffer is used or freed.
use Rattle.std.proofs.Common.{◌≡◌, ◌≢◌, ℕ, zero, suc, ◌+◌, ◌<◌, ◌≤◌, ◌++◌, List, [], ◌∷◌, length, take, drop, get_or, slice_get, slice_set, Some, All, ap, sym, subst, ◌∙◌, refl, arith, length-append, length-set, append-nil, append_assoc}
use Rattle.std.proofs.lemmas.Bool.Decides.{nat_tests}
use Rattle.std.proofs.lemmas.List.{take-append-drop, map-append, map-set, get_or-set_same, get_or-set_other}
use Rattle.std.proofs.lemmas.List.Elements.{All-from_get_or}
use Rattle.std.proofs.lemmas.Option.{same_Some}
use Rattle.rtpwire.specs.declared.content.Content.{Content}
use Rattle.rtpwire.specs.Content.{blank_content}
use Rattle.stores.specs.declared.cell.Cell.{Cell}
use Rattle.stores.specs.declared.cell.Cell.TheVariants.{Taken, Unseen}
use Rattle.stores.specs.declared.slot.Slot.{Slot}
use Rattle.stores.specs.declared.slot.Slot.TheVariants.{Held}
use Rattle.stores.specs.Numbers.{times, AreNumbers}
use Rattle.stores.specs.Pool.{slot_in, slots_in, numbers_of, IsPool, grown_contents, grown_free, freed}
use Rattle.stores.proofs.Numbers.{times_append, times_item, number_below, last_below, last_alone, numbers_more, numbers_moved}

-- numbers of cells

numbers_append : (a b : List Cell) → numbers_of (a ++ b) ≡ numbers_of a ++ numbers_of b
unfolding numbers_of
numbers_append [] b = refl
numbers_append (Taken n ∷ a) b = ap (λ (ns : List ℕ). n ∷ ns) (numbers_append a b)
numbers_append (Unseen asks noticed last ∷ a) b = numbers_append a b

numbers_taken : (n : ℕ) → numbers_of (Taken n ∷ []) ≡ n ∷ []
unfolding numbers_of
numbers_taken n = refl

numbers_unseen : (noticed asks last : ℕ) → numbers_of (Unseen asks noticed last ∷ []) ≡ []
unfolding numbers_of
numbers_unseen noticed asks last = refl

times_set : (cells : List Cell) (i n m noticed asks last : ℕ) → slice_get cells i ≡ Some (Unseen asks noticed last)
    → times m (numbers_of (slice_set cells i (Taken n))) ≡ times m (n ∷ []) + times m (numbers_of cells)
unfolding numbers_of times
times_set [] i n m noticed asks last found = absurd cc
times_set (Taken k ∷ cells) zero n m noticed asks last found = absurd cc
times_set (Unseen a b c ∷ cells) zero n m noticed asks last found = omega arith
times_set (Taken k ∷ cells) (suc i) n m noticed asks last found = let rest = times_set cells i n m noticed asks last found in omega arith
times_set (Unseen a b c ∷ cells) (suc i) n m noticed asks last found = times_set cells i n m noticed asks last found

count_set : (cells : List Cell) (i n noticed asks last : ℕ) → slice_get cells i ≡ Some (Unseen asks noticed last)
    → length (numbers_of (slice_set cells i (Taken n))) ≡ 1 + length (numbers_of cells)
unfolding numbers_of
count_set [] i n noticed asks last found = absurd cc
count_set (Taken k ∷ cells) zero n noticed asks last found = absurd cc
count_set (Unseen a b c ∷ cells) zero n noticed asks last found = omega arith
count_set (Taken k ∷ cells) (suc i) n noticed asks last found = let rest = count_set cells i n noticed asks last found in omega arith
count_set (Unseen a b c ∷ cells) (suc i) n noticed asks last found = count_set cells i n noticed asks last found

pub numbers_asked : (cells : List Cell) (i noticed asks last noticed' asks' last' : ℕ) → slice_get cells i ≡ Some (Unseen asks noticed last)
    → numbers_of (slice_set cells i (Unseen asks' noticed' last')) ≡ numbers_of cells
unfolding numbers_of
numbers_asked [] i noticed asks last noticed' asks' last' found = absurd cc
numbers_asked (Taken k ∷ cells) zero noticed asks last noticed' asks' last' found = absurd cc
numbers_asked (Unseen a b c ∷ cells) zero noticed asks last noticed' asks' last' found = refl
numbers_asked (Taken k ∷ cells) (suc i) noticed asks last noticed' asks' last' found =
    ap (λ (ns : List ℕ). k ∷ ns) (numbers_asked cells i noticed asks last noticed' asks' last' found)
numbers_asked (Unseen a b c ∷ cells) (suc i) noticed asks last noticed' asks' last' found = numbers_asked cells i noticed asks last noticed' asks' last' found

-- there are no more numbers than cells, and fewer where a cell has none
pub held_le : (cells : List Cell) → length (numbers_of cells) ≤ length cells
unfolding numbers_of
held_le [] = omega arith
held_le (Taken n ∷ cells) = let rest = held_le cells in omega arith
held_le (Unseen a b c ∷ cells) = let rest = held_le cells in omega arith

pub held_lt : (cells : List Cell) (i noticed asks last : ℕ) → slice_get cells i ≡ Some (Unseen asks noticed last) → length (numbers_of cells) < length cells
unfolding numbers_of
held_lt [] i noticed asks last found = absurd cc
held_lt (Taken k ∷ cells) zero noticed asks last found = absurd cc
held_lt (Unseen a b c ∷ cells) zero noticed asks last found = let rest = held_le cells in omega arith
held_lt (Taken k ∷ cells) (suc i) noticed asks last found = let rest = held_lt cells i noticed asks last found in omega arith
held_lt (Unseen a b c ∷ cells) (suc i) noticed asks last found = let rest = held_lt cells i noticed asks last found in omega arith

times_of_cell : (cells : List Cell) (i n : ℕ) → slice_get cells i ≡ Some (Taken n) → 0 < times n (numbers_of cells)
unfolding numbers_of times
times_of_cell [] i n found = absurd cc
times_of_cell (Unseen a b c ∷ cells) zero n found = absurd cc
times_of_cell (Taken k ∷ cells) zero n found = let same : k ≡ n = cc in grind (arith, nat_tests)
times_of_cell (Taken k ∷ cells) (suc i) n found = let rest = times_of_cell cells i n found in omega arith
times_of_cell (Unseen a b c ∷ cells) (suc i) n found = times_of_cell cells i n found

-- the buffers that cells and free numbers name are there

pub cell_known : (cells : List Cell) (contents : List Content) (free : List ℕ) (i n : ℕ) → IsPool cells contents free → slice_get cells i ≡ Some (Taken n) → n < length contents
cell_known cells contents free i n is found =
    let some = times_of_cell cells i n found in
    let joined = times_append n (numbers_of cells) free in
    number_below (numbers_of cells ++ free) (length contents) n is (omega arith)

pub free_known : (cells : List Cell) (contents : List Content) (free : List ℕ) → IsPool cells contents free → All (λ n. n < length contents) free
free_known cells contents free is = All-from_get_or (λ n. n < length contents) free 0 (λ i within.
    let some = times_item free i within in
    let joined = times_append (get_or free i 0) (numbers_of cells) free in
    number_below (numbers_of cells ++ free) (length contents) (get_or free i 0) is (omega arith))

-- as many as buffers
pub pool_count : (cells : List Cell) (contents : List Content) (free : List ℕ) → IsPool cells contents free → length (numbers_of cells) + length free ≡ length contents
pool_count cells contents free is = sym (length-append (numbers_of cells) free) ∙ is.all

-- a buffer more

get_or_blank : (xs : List Content) (n : ℕ) (d : Content) → get_or (xs ++ d ∷ []) n d ≡ get_or xs n d
get_or_blank [] zero d = refl
get_or_blank [] (suc n) d = refl
get_or_blank (x ∷ xs) zero d = refl
get_or_blank (x ∷ xs) (suc n) d = get_or_blank xs n d

slots_blank : (contents : List Content) (cells : List Cell) → slots_in (contents ++ blank_content ∷ []) cells ≡ slots_in contents cells
slots_blank contents [] = refl
slots_blank contents (Taken n ∷ cells) =
    ap (λ (c : Content). Held c ∷ slots_in (contents ++ blank_content ∷ []) cells) (get_or_blank contents n blank_content)
    ∙ ap (λ (s : List Slot). Held (get_or contents n blank_content) ∷ s) (slots_blank contents cells)
slots_blank contents (Unseen a b c ∷ cells) = ap (λ (s : List Slot). slot_in contents (Unseen a b c) ∷ s) (slots_blank contents cells)

pub slots_grown : (contents : List Content) (free : List ℕ) (cells : List Cell) → slots_in (grown_contents contents free) cells ≡ slots_in contents cells
slots_grown contents [] cells = slots_blank contents cells
slots_grown contents (n ∷ free) cells = refl

pub pool_grown : (cells : List Cell) (contents : List Content) (free : List ℕ) → IsPool cells contents free → IsPool cells (grown_contents contents free) (grown_free contents free)
pool_grown cells contents [] is =
    let longer : length (contents ++ blank_content ∷ []) ≡ length contents + 1 = length-append contents (blank_content ∷ []) in
    let used : AreNumbers (numbers_of cells) (length contents) = subst (λ ns. AreNumbers ns (length contents)) (append-nil (numbers_of cells)) is in
    subst (λ k. AreNumbers (numbers_of cells ++ length contents ∷ []) k) (sym longer) (numbers_more (numbers_of cells) (length contents) used)
pool_grown cells contents (n ∷ free) is = is

pub grown_some : (contents : List Content) (free : List ℕ) → 0 < length (grown_free contents free)
grown_some contents [] = omega arith
grown_some contents (n ∷ free) = omega arith

-- a free buffer is filled

-- the last free one is the last of all
free_last : (cells : List Cell) (contents : List Content) (free : List ℕ) (n : ℕ) → IsPool cells contents (free ++ n ∷ []) → AreNumbers ((numbers_of cells ++ free) ++ n ∷ []) (length contents)
free_last cells contents free n is = subst (λ ns. AreNumbers ns (length contents)) (sym (append_assoc (numbers_of cells) free (n ∷ []))) is

-- no cell has it
unused : (cells : List Cell) (contents : List Content) (free : List ℕ) (n : ℕ) → IsPool cells contents (free ++ n ∷ []) → times n (numbers_of cells) ≡ 0
unused cells contents free n is =
    let none = last_alone (numbers_of cells ++ free) n (length contents) (free_last cells contents free n is) in
    let joined = times_append n (numbers_of cells) free in
    omega arith

is_there : (cells : List Cell) (contents : List Content) (free : List ℕ) (n : ℕ) → IsPool cells contents (free ++ n ∷ []) → n < length contents
is_there cells contents free n is = last_below (numbers_of cells ++ free) n (length contents) (free_last cells contents free n is)

-- what a buffer holds that no cell has changes no slot
slots_filled : (contents : List Content) (n : ℕ) (content : Content) (cells : List Cell) → times n (numbers_of cells) ≡ 0
    → slots_in (slice_set contents n content) cells ≡ slots_in contents cells
unfolding numbers_of times
slots_filled contents n content [] none = refl
slots_filled contents n content (Taken m ∷ cells) none =
    let other : m ≢ n = λ same. absurd (let some = times_of_cell (Taken m ∷ cells) 0 n (ap (λ k. Some (Taken k)) same) in omega arith) in
    let rest : times n (numbers_of cells) ≡ 0 = omega arith in
    ap (λ (c : Content). Held c ∷ slots_in (slice_set contents n content) cells) (get_or-set_other contents n m content blank_content other)
    ∙ ap (λ (s : List Slot). Held (get_or contents m blank_content) ∷ s) (slots_filled contents n content cells rest)
slots_filled contents n content (Unseen a b c ∷ cells) none =
    ap (λ (s : List Slot). slot_in contents (Unseen a b c) ∷ s) (slots_filled contents n content cells none)

filled_there : (contents : List Content) (n : ℕ) (content : Content) → n < length contents → slot_in (slice_set contents n content) (Taken n) ≡ Held content
filled_there contents n content there = ap Held (get_or-set_same contents n content blank_content there)

-- the last free number goes to cells, wherever it stands among them
number_taken : (cells cells₂ : List Cell) (contents : List Content) (free : List ℕ) (n : ℕ) (content : Content) → ((m : ℕ) → times m (numbers_of cells₂) ≡ times m (n ∷ []) + times m (numbers_of cells))
    → length (numbers_of cells₂) ≡ 1 + length (numbers_of cells) → IsPool cells contents (free ++ n ∷ []) → IsPool cells₂ (slice_set contents n content) free
number_taken cells cells₂ contents free n content more one_more is =
    subst (λ k. AreNumbers (numbers_of cells₂ ++ free) k) (sym (length-set contents n content))
    (numbers_moved (numbers_of cells ++ (free ++ n ∷ [])) (numbers_of cells₂ ++ free) (length contents)
    (λ m.
    let here = more m in
    let now = times_append m (numbers_of cells₂) free in
    let before = times_append m (numbers_of cells) (free ++ n ∷ []) in
    let apart = times_append m free (n ∷ []) in
    omega (arith, here, now, before, apart))
    (let now = length-append (numbers_of cells₂) free in
    let before = length-append (numbers_of cells) (free ++ n ∷ []) in
    let apart = length-append free (n ∷ []) in
    omega (arith, one_more, now, before, apart))
    is)

pub pool_append : (cells : List Cell) (contents : List Content) (free : List ℕ) (n : ℕ) (content : Content) → IsPool cells contents (free ++ n ∷ [])
    → IsPool (cells ++ Taken n ∷ []) (slice_set contents n content) free
pool_append cells contents free n content is =
    let numbers : numbers_of (cells ++ Taken n ∷ []) ≡ numbers_of cells ++ n ∷ [] = numbers_append cells (Taken n ∷ []) ∙ ap (λ (ns : List ℕ). numbers_of cells ++ ns) (numbers_taken n) in
    number_taken cells (cells ++ Taken n ∷ []) contents free n content
    (λ m. let joined = times_append m (numbers_of cells) (n ∷ []) in ap (times m) numbers ∙ omega (arith, joined))
    (let joined = length-append (numbers_of cells) (n ∷ []) in ap length numbers ∙ omega (arith, joined))
    is

pub slots_append : (cells : List Cell) (contents : List Content) (free : List ℕ) (n : ℕ) (content : Content) → IsPool cells contents (free ++ n ∷ [])
    → slots_in (slice_set contents n content) (cells ++ Taken n ∷ []) ≡ slots_in contents cells ++ Held content ∷ []
slots_append cells contents free n content is =
    map-append (slot_in (slice_set contents n content)) cells (Taken n ∷ [])
    ∙ ap (λ (s : List Slot). s ++ slot_in (slice_set contents n content) (Taken n) ∷ []) (slots_filled contents n content cells (unused cells contents free n is))
    ∙ ap (λ (s : Slot). slots_in contents cells ++ s ∷ []) (filled_there contents n content (is_there cells contents free n is))

pub pool_set : (cells : List Cell) (contents : List Content) (free : List ℕ) (i n noticed asks last : ℕ) (content : Content) → slice_get cells i ≡ Some (Unseen asks noticed last)
    → IsPool cells contents (free ++ n ∷ []) → IsPool (slice_set cells i (Taken n)) (slice_set contents n content) free
pool_set cells contents free i n noticed asks last content found is =
    number_taken cells (slice_set cells i (Taken n)) contents free n content (λ m. times_set cells i n m noticed asks last found) (count_set cells i n noticed asks last found) is

pub slots_set : (cells : List Cell) (contents : List Content) (free : List ℕ) (i n : ℕ) (content : Content) → IsPool cells contents (free ++ n ∷ [])
    → slots_in (slice_set contents n content) (slice_set cells i (Taken n)) ≡ slice_set (slots_in contents cells) i (Held content)
slots_set cells contents free i n content is =
    map-set (slot_in (slice_set contents n content)) cells i (Taken n)
    ∙ ap (λ (s : List Slot). slice_set s i (slot_in (slice_set contents n content) (Taken n))) (slots_filled contents n content cells (unused cells contents free n is))
    ∙ ap (λ (s : Slot). slice_set (slots_in contents cells) i s) (filled_there contents n content (is_there cells contents free n is))

-- the first cell goes

-- numbers that cells had are free
numbers_freed : (numbers left free : List ℕ) (count : ℕ) → AreNumbers ((numbers ++ left) ++ free) count → AreNumbers (left ++ (free ++ numbers)) count
numbers_freed numbers left free count are =
    numbers_moved ((numbers ++ left) ++ free) (left ++ (free ++ numbers)) count
    (λ m.
    let a = times_append m (numbers ++ left) free in
    let b = times_append m numbers left in
    let c = times_append m left (free ++ numbers) in
    let d = times_append m free numbers in
    omega (arith, a, b, c, d))
    (let a = length-append (numbers ++ left) free in
    let b = length-append numbers left in
    let c = length-append left (free ++ numbers) in
    let d = length-append free numbers in
    omega (arith, a, b, c, d))
    are

pub pool_freed : (cells : List Cell) (contents : List Content) (free : List ℕ) (n : ℕ) → slice_get cells 0 ≡ Some (Taken n) → IsPool cells contents free
    → IsPool (drop 1 cells) contents (free ++ n ∷ [])
unfolding numbers_of
pool_freed [] contents free n found is = absurd cc
pool_freed (Unseen a b c ∷ cells) contents free n found is = absurd cc
pool_freed (Taken m ∷ cells) contents free n found is =
    let same : m ≡ n = cc in
    subst (λ k. AreNumbers (numbers_of cells ++ (free ++ k ∷ [])) (length contents)) same (numbers_freed (m ∷ []) (numbers_of cells) free (length contents) is)

pub pool_passed : (cells : List Cell) (contents : List Content) (free : List ℕ) (noticed asks last : ℕ) → slice_get cells 0 ≡ Some (Unseen asks noticed last) → IsPool cells contents free
    → IsPool (drop 1 cells) contents free
unfolding numbers_of
pool_passed [] contents free noticed asks last found is = absurd cc
pool_passed (Taken m ∷ cells) contents free noticed asks last found is = absurd cc
pool_passed (Unseen a b c ∷ cells) contents free noticed asks last found is = is

-- the first cells go

cells_apart : (n : ℕ) (cells : List Cell) → numbers_of cells ≡ numbers_of (take n cells) ++ numbers_of (drop n cells)
cells_apart n cells = ap numbers_of (sym (take-append-drop n cells)) ∙ numbers_append (take n cells) (drop n cells)

pub pool_dropped : (cells : List Cell) (contents : List Content) (free : List ℕ) (n : ℕ) → IsPool cells contents free → IsPool (drop n cells) contents (free ++ numbers_of (take n cells))
pool_dropped cells contents free n is =
    numbers_freed (numbers_of (take n cells)) (numbers_of (drop n cells)) free (length contents)
    (subst (λ ns. AreNumbers (ns ++ free) (length contents)) (cells_apart n cells) is)

-- there is room for their numbers
pub room_to_free_many : (cells : List Cell) (contents : List Content) (free : List ℕ) (n : ℕ) → IsPool cells contents free → length free + length (numbers_of (take n cells)) ≤ length contents
room_to_free_many cells contents free n is =
    let all = pool_count cells contents free is in
    let whole = ap length (cells_apart n cells) ∙ length-append (numbers_of (take n cells)) (numbers_of (drop n cells)) in
    omega arith

-- the free numbers once one cell more is freed

freed_after : (ms ns : List ℕ) (cell : Cell) → freed (ms ++ ns) (Some cell) ≡ ms ++ freed ns (Some cell)
freed_after ms ns (Taken n) = append_assoc ms ns (n ∷ [])
freed_after ms ns (Unseen a b c) = refl

numbers_of_one : (cell : Cell) → numbers_of (cell ∷ []) ≡ freed [] (Some cell)
unfolding numbers_of
numbers_of_one (Taken n) = refl
numbers_of_one (Unseen a b c) = refl

numbers_next : (cells : List Cell) (i : ℕ) (cell : Cell) → slice_get cells i ≡ Some cell → numbers_of (take (suc i) cells) ≡ freed (numbers_of (take i cells)) (Some cell)
unfolding numbers_of
numbers_next [] i cell found = absurd cc
numbers_next (x ∷ cells) zero cell found = ap (λ y. numbers_of (y ∷ [])) (same_Some x cell found) ∙ numbers_of_one cell
numbers_next (Taken m ∷ cells) (suc i) cell found = ap (λ (ns : List ℕ). m ∷ ns) (numbers_next cells i cell found) ∙ sym (freed_after (m ∷ []) (numbers_of (take i cells)) cell)
numbers_next (Unseen a b c ∷ cells) (suc i) cell found = numbers_next cells i cell found

pub freed_next : (cells : List Cell) (free : List ℕ) (i : ℕ) (cell : Cell) → slice_get cells i ≡ Some cell → freed (free ++ numbers_of (take i cells)) (Some cell) ≡ free ++ numbers_of (take (i + 1) cells)
freed_next cells free i cell found =
    let next : suc i ≡ i + 1 = omega arith in
    freed_after free (numbers_of (take i cells)) cell ∙ ap (λ (ns : List ℕ). free ++ ns) (sym (numbers_next cells i cell found) ∙ ap (λ n. numbers_of (take n cells)) next)

pub freed_none : (cells : List Cell) (free : List ℕ) → free ≡ free ++ numbers_of (take 0 cells)
unfolding numbers_of
freed_none cells free = sym (append-nil free)

-- a run of cells that has one with a number has more of them than what is before that one
pub numbers_left : (cells : List Cell) (i count n : ℕ) → i < count → slice_get cells i ≡ Some (Taken n) → length (numbers_of (take i cells)) < length (numbers_of (take count cells))
unfolding numbers_of
numbers_left [] i count n l found = absurd cc
numbers_left cells i zero n l found = absurd (omega arith)
numbers_left (Unseen a b c ∷ cells) zero (suc count) n l found = absurd cc
numbers_left (Taken m ∷ cells) zero (suc count) n l found = omega arith
numbers_left (Taken m ∷ cells) (suc i) (suc count) n l found = let rest = numbers_left cells i count n (omega arith) found in omega arith
numbers_left (Unseen a b c ∷ cells) (suc i) (suc count) n l found = numbers_left cells i count n (omega arith) found

-- cells without a number come and change

pub pool_missing : (cells : List Cell) (contents : List Content) (free : List ℕ) (noticed asks last : ℕ) → IsPool cells contents free → IsPool (cells ++ Unseen asks noticed last ∷ []) contents free
pool_missing cells contents free noticed asks last is =
    let same : numbers_of (cells ++ Unseen asks noticed last ∷ []) ≡ numbers_of cells =
    numbers_append cells (Unseen asks noticed last ∷ []) ∙ ap (λ (ns : List ℕ). numbers_of cells ++ ns) (numbers_unseen noticed asks last) ∙ append-nil (numbers_of cells) in
    subst (λ ns. AreNumbers (ns ++ free) (length contents)) (sym same) is

pub pool_asked : (cells : List Cell) (contents : List Content) (free : List ℕ) (i noticed asks last noticed' asks' last' : ℕ) → slice_get cells i ≡ Some (Unseen asks noticed last)
    → IsPool cells contents free → IsPool (slice_set cells i (Unseen asks' noticed' last')) contents free
pool_asked cells contents free i noticed asks last noticed' asks' last' found is =
    subst (λ ns. AreNumbers (ns ++ free) (length contents)) (sym (numbers_asked cells i noticed asks last noticed' asks' last' found)) is

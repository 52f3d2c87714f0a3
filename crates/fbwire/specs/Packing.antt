-- How places become the pairs of a generic NACK (a choice of this project; RFC 4585, section 6.2.1, says
-- what a pair names). A packing is said by what its pairs name, and not by how they were found.
use Rattle.std.specs.Prelude.{◌≡◌, ◌↔◌, ℕ, ◌+◌, ◌-◌, ◌<◌, ◌≤◌, List, [], ◌∷◌, length, take, map, All, Contains, slice_index}
use Rattle.places.specs.Place.{number}
use Rattle.fbwire.specs.declared.nack.Pair.{Pair}
use Rattle.fbwire.specs.Nack.{IsPair, Names}

-- the pairs name these numbers, and no others
abbrev pub NamesExactly : List Pair → List ℕ → Type 0
NamesExactly pairs numbers = (n : ℕ) → Names pairs n ↔ Contains numbers n

-- the pairs name exactly these numbers, and no shorter list of pairs does
pub record IsFewest (pairs : List Pair) (numbers : List ℕ) : Type 0 where
  pub exact : NamesExactly pairs numbers
  pub fewest : (others : List Pair) → NamesExactly others numbers → length pairs ≤ length others

-- each pair starts at its place, which is more than 16 below each later one
abbrev pub StartApart : List Pair → List ℕ → Type 0
StartApart [] [] = Unit {0}
StartApart [] (start ∷ starts) = ⊥
StartApart (p ∷ pairs) [] = ⊥
StartApart (p ∷ pairs) (start ∷ starts) =
    (p.pid ≡ number start) × All (λ later. start + 16 < later) starts × StartApart pairs starts

-- the last place is less than 8192 above the first
abbrev pub IsNarrow : List ℕ → Type 0
IsNarrow places = slice_index places (length places - 1) < slice_index places 0 + 8192

-- the sequence numbers of the first places, so many of them
abbrev pub first_numbers : ℕ → List ℕ → List ℕ
first_numbers count places = map number (take count places)

-- The pairs are a packing of the first places, so many of them.
pub record IsPacking (places : List ℕ) (pairs : List Pair) (covered : ℕ) : Type 0 where
  pub within : covered ≤ length places
  pub fit : All IsPair pairs
  pub few : length pairs ≤ 64
  -- They name exactly the numbers of these places, and fewer pairs don't. (That fewer don't follows from where
  -- they start, said last here: places that are more than 16 apart take a pair each. So a body that were allowed
  -- one pair more would make no more.)
  pub fewest : IsFewest pairs (first_numbers covered places)
  -- No 64 pairs name exactly the numbers of a longer beginning.
  pub longest : (n : ℕ) (others : List Pair) → n ≤ length places → length others ≤ 64
      → NamesExactly others (first_numbers n places) → n ≤ covered
  -- They start at places of this beginning that are more than 16 apart.
  pub starts : List ℕ
  pub among : All (Contains (take covered places)) starts
  pub apart : StartApart pairs starts

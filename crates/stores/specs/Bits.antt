-- A set of positions below a bound, as bits in words of 64.
use Rattle.std.specs.Prelude.{◌≡◌, ℕ, ◌+◌, ◌-◌, ◌*◌, ◌/◌, ◌%◌, ◌<◌, ◌==◌, ◌&&◌, Bool, false, List, length, get_or, slice_get, Option, if◌then◌else◌, nat_lt, nat_le}
use Rattle.std.specs.Int.{bit_at}
use Rattle.std.specs.List.{filter, range_with_len}

-- whether the bit number b is set, where the lowest bit of the first word has number 0
abbrev pub is_set : List ℕ → ℕ → Bool
is_set words b = bit_at (get_or words (b / 64) 0) (b % 64) == 1

-- how many bits the words have
abbrev pub bits_of : List ℕ → ℕ
bits_of words = 64 * length words

-- the number of the bit that is p above that of the front, where the last bit is followed by the first
abbrev pub turned : (bound front p : ℕ) → ℕ
turned bound front p = if nat_lt (front + p) bound then front + p else front + p - bound

-- whether the set has the position p, where the bit of the position 0 has the number `front`
abbrev pub is_member : List ℕ → ℕ → ℕ → Bool
is_member words front p = is_set words (turned (bits_of words) front p)

-- the set has the positions of the items that pass the test, and no other
abbrev pub IsSetOf : {X : Type 0} → (Option X → Bool) → List ℕ → ℕ → List X → Type 0
IsSetOf test words front items = (p : ℕ) → p < bits_of words → is_member words front p ≡ test (slice_get items p)

-- the set has no position below this one
abbrev pub HasNoneBelow : List ℕ → ℕ → ℕ → Type 0
HasNoneBelow words front lowest = (p : ℕ) → p < lowest → is_member words front p ≡ false

-- how many bits are set
unfoldable pub size_of : List ℕ → ℕ
size_of words = length (filter (is_set words) (range_with_len 0 (bits_of words)))

-- whether n is one of the numbers from a up to below b
abbrev pub is_between : (a b n : ℕ) → Bool
is_between a b n = nat_le a n && nat_lt n b

-- how many of the bits from the number a on, so many, are set
abbrev pub set_from : List ℕ → ℕ → ℕ → ℕ
set_from words a count = length (filter (is_set words) (range_with_len a count))

-- how many of the first positions, so many, the set has
abbrev pub members_below : List ℕ → ℕ → ℕ → ℕ
members_below words front count = length (filter (is_member words front) (range_with_len 0 count))

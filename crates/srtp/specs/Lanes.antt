-- Eight words of 64 bits hold 64 octets side by side, each in a lane of its own: bit k of the octet in lane l is bit l
-- of word k. So an operation on words is done to 64 octets at once, with no table and no branch.
use Rattle.std.specs.Prelude.{ℕ, zero, suc, ◌≡◌, ◌+◌, ◌-◌, ◌*◌, ◌/◌, ◌%◌, ◌^◌, ◌<◌, ◌==◌, ◌&&◌, nat_le, if◌then◌else◌, List, slice_index}
use Rattle.std.specs.Int.{bit_at}
use Rattle.srtp.specs.Aes.{state_of}

-- the number of the first so many bits
unfoldable pub number_of : (ℕ → ℕ) → ℕ → ℕ
number_of bit zero = 0
number_of bit (suc n) = bit n * 2 ^ n + number_of bit n

-- the octet in a lane
unfoldable pub lane : List ℕ → ℕ → ℕ
lane words l = number_of (λ k. bit_at (slice_index words k) l) 8

-- Four states stand side by side: rows lie 16 lanes apart, columns 4, and blocks one. So this is the lane of an octet
-- of a block, by its place in the state.
abbrev pub lane_of : (block place : ℕ) → ℕ
lane_of block place = 16 * (place % 4) + 4 * (place / 4) + block

-- the state of one of the four blocks
unfoldable pub state_in : List ℕ → ℕ → List ℕ
state_in words block = state_of (λ place. lane words (lane_of block place))

-- ---- octets into lanes, and back

-- the number i with bit t of m for its own
abbrev pub crossed : (t i m : ℕ) → ℕ
crossed t i m = i - bit_at i t * 2 ^ t + bit_at m t * 2 ^ t

-- Eight words out of eight, where bit t of a bit's place and bit t of its word's number were exchanged.
abbrev pub AreCrossed : (t : ℕ) (words out : List ℕ) → Type 0
AreCrossed t words out =
    (i m : ℕ) → i < 8 → m < 64
    → bit_at (slice_index out i) m ≡ bit_at (slice_index words (crossed t i m)) (crossed t m i)

-- Eight words out of eight, where the place of a bit in its octet and its word's number were exchanged.
abbrev pub AreTurned : (words out : List ℕ) → Type 0
AreTurned words out =
    (i m : ℕ) → i < 8 → m < 64
    → bit_at (slice_index out i) m ≡ bit_at (slice_index words (m % 8)) (8 * (m / 8) + i)

-- ---- octets that change lanes

-- the place that a bit comes from where the bits of a mask and those `by` above them change places
abbrev pub swapped : (mask by m : ℕ) → ℕ
swapped mask by m =
    if bit_at mask m == 1
    then m + by
    else (if nat_le by m && (bit_at mask (m - by) == 1) then m - by else m)

-- the lane that an octet comes from where row r of each state is shifted to the left by r columns
abbrev pub row_shifted : ℕ → ℕ
row_shifted l = 16 * (l / 16) + (l % 16 + 4 * (l / 16)) % 16

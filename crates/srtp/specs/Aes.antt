-- AES-128 encryption (FIPS 197, section 5). A state is the list of its 16 octets, column by column: row r of column c stands
-- at place r + 4 c.
use Rattle.std.specs.Prelude.{ℕ, zero, suc, ◌+◌, ◌*◌, ◌/◌, ◌%◌, ◌<◌, ◌≡◌, List, [], ◌∷◌, ◌++◌, map, bit_xor, slice_index, get_or}
use Rattle.std.specs.Int.{w8, rotate_left}
use Rattle.std.specs.List.{range_with_len}
use Rattle.srtp.specs.Octets.{xor_octets}
use Rattle.srtp.specs.Field.{xtime, times_power, inverse}

-- The affine map: bit i is the sum of bits i, i + 4, i + 5, i + 6 and i + 7, modulo 8, and of bit i of {63} (section 5.1.1).
-- Bit i + 8 - k stands at i when the octet is rotated to the left by k.
abbrev pub affine : ℕ → ℕ
affine b = bit_xor (bit_xor (bit_xor (bit_xor (bit_xor b (rotate_left w8 b 1)) (rotate_left w8 b 2)) (rotate_left w8 b 3)) (rotate_left w8 b 4)) 0x63

-- the S-box: the inverse, and then the affine map
unfoldable pub sub_byte : ℕ → ℕ
sub_byte b = affine (inverse b)

abbrev pub sub_bytes : List ℕ → List ℕ
sub_bytes state = map sub_byte state

-- the octet of a state at a row and a column; rows go on after the last one with the first
abbrev pub octet_at : List ℕ → (row column : ℕ) → ℕ
octet_at state row column = slice_index state (row % 4 + 4 * (column % 4))

-- a state of an octet for each place
abbrev pub state_of : (ℕ → ℕ) → List ℕ
state_of octet = map octet (range_with_len 0 16)

-- row r is shifted to the left by r columns (section 5.1.2)
abbrev pub shifted : List ℕ → ℕ → ℕ
shifted state i = octet_at state (i % 4) (i / 4 + i % 4)

unfoldable pub shift_rows : List ℕ → List ℕ
shift_rows state = state_of (shifted state)

-- {02} by the octet, {03} by the next one in the column, and the other two (section 5.1.3)
abbrev pub mixed : List ℕ → ℕ → ℕ
mixed state i =
    let here = octet_at state (i % 4) (i / 4) in
    let next = octet_at state (i % 4 + 1) (i / 4) in
    bit_xor (bit_xor (bit_xor (xtime here) (bit_xor (xtime next) next)) (octet_at state (i % 4 + 2) (i / 4))) (octet_at state (i % 4 + 3) (i / 4))

unfoldable pub mix_columns : List ℕ → List ℕ
mix_columns state = state_of (mixed state)

-- word i of a round key: four octets
abbrev pub word : List ℕ → ℕ → List ℕ
word key i = slice_index key (4 * i) ∷ slice_index key (4 * i + 1) ∷ slice_index key (4 * i + 2) ∷ slice_index key (4 * i + 3) ∷ []

-- SubWord of RotWord of the last word of a round key, and Rcon, whose first octet is x^(r - 1), here with r - 1 (section 5.2)
abbrev pub changed_word : List ℕ → ℕ → List ℕ
changed_word key r =
    bit_xor (sub_byte (slice_index key 13)) (times_power r 1) ∷ sub_byte (slice_index key 14) ∷ sub_byte (slice_index key 15) ∷ sub_byte (slice_index key 12) ∷ []

-- Each word of the next round key is the word four before it, by exclusive or with the word before it, which is changed
-- so where it begins a round key (section 5.2, Nk = 4).
abbrev pub next_word : List ℕ → ℕ → ℕ → List ℕ
next_word key r zero = xor_octets (word key 0) (changed_word key r)
next_word key r (suc i) = xor_octets (word key (suc i)) (next_word key r i)

unfoldable pub next_key : List ℕ → ℕ → List ℕ
next_key key r = ((next_word key r 0 ++ next_word key r 1) ++ next_word key r 2) ++ next_word key r 3

-- round key r, from 0 to 10
unfoldable pub round_key : List ℕ → ℕ → List ℕ
round_key key zero = key
round_key key (suc r) = next_key (round_key key r) r

-- the state after round r, of the rounds but the last one (section 5.1)
unfoldable pub rounds : (key block : List ℕ) → ℕ → List ℕ
rounds key block zero = xor_octets block (round_key key 0)
rounds key block (suc r) = xor_octets (mix_columns (shift_rows (sub_bytes (rounds key block r)))) (round_key key (suc r))

-- the block that a key makes of a block: the last round mixes no columns
unfoldable pub aes128 : (key block : List ℕ) → List ℕ
aes128 key block = xor_octets (shift_rows (sub_bytes (rounds key block 9))) (round_key key 10)

-- these are the round keys of the key
abbrev pub AreRoundKeys : List (List ℕ) → List ℕ → Type 0
AreRoundKeys keys key = (none : List ℕ) (r : ℕ) → r < 11 → get_or keys r none ≡ round_key key r

-- Generic NACKs (RFC 4585, sections 6.1 and 6.2.1): what one says, which sequence numbers it names, and
-- how octets spell it. Octets are numbers, and `big_bytes n x` is the number x in n octets in network order.
use Rattle.std.specs.Prelude.{◌≡◌, ℕ, zero, suc, Bool, IsTrue, ◌+◌, ◌-◌, ◌%◌, ◌^◌, ◌<◌, ◌≤◌, ◌⊎◌, ◌==◌, List, [], ◌∷◌, ◌++◌, length, map, filter, All}
use Rattle.std.specs.List.{flat_map}
use Rattle.std.specs.Int.{bit_at}
use Rattle.byteorder.specs.Endian.{big_bytes}
use Rattle.fbwire.specs.declared.nack.Pair.{Pair}

-- what a NACK says
pub record Nack : Type 0 where
  pub reporter : ℕ  -- the SSRC of the packet's sender
  pub media : ℕ  -- the SSRC of the media source
  pub pairs : List Pair

-- Bit i of a mask, counted from 1, the least significant, to 16, is set (section 6.2.1).
abbrev pub has_bit : ℕ → ℕ → Bool
has_bit mask i = bit_at mask (i - 1) == 1

-- so many numbers, one after another from the first
abbrev pub up_from : (first count : ℕ) → List ℕ
up_from first zero = []
up_from first (suc count) = first ∷ up_from (suc first) count

-- the bits of a mask
unfoldable pub mask_bits : List ℕ
mask_bits = up_from 1 16

-- the numbers that a mask names above a PID: for each set bit i the number i above it, modulo 65536
abbrev pub masked_numbers : (pid mask : ℕ) → List ℕ
masked_numbers pid mask = map (λ i. (pid + i) % 65536) (filter (has_bit mask) mask_bits)

-- the numbers that a pair names: its PID, and those of its mask
abbrev pub pair_numbers : Pair → List ℕ
pair_numbers p = p.pid ∷ masked_numbers p.pid p.blp

-- the numbers that pairs name, in their order
abbrev pub numbers_of : List Pair → List ℕ
numbers_of pairs = flat_map pair_numbers pairs

-- The same as a set.

-- i is the number of a set bit
abbrev pub IsMaskBit : (mask i : ℕ) → Type 0
IsMaskBit mask i = (1 ≤ i) × (i ≤ 16) × IsTrue (has_bit mask i)

-- a pair names the number
abbrev pub PairNames : Pair → ℕ → Type 0
PairNames p n = (n ≡ p.pid) ⊎ ((i : ℕ) × IsMaskBit p.blp i × (n ≡ (p.pid + i) % 65536))

-- one of the pairs names the number
abbrev pub Names : List Pair → ℕ → Type 0
Names [] n = ⊥
Names (p ∷ pairs) n = PairNames p n ⊎ Names pairs n

-- what a pair can hold
pub record IsPair (p : Pair) : Type 0 where
  pub pid : p.pid < 2 ^ 16
  pub blp : p.blp < 2 ^ 16

-- What a NACK can hold: one pair or more, and no more than the length field counts.
pub record IsNack (n : Nack) : Type 0 where
  pub reporter : n.reporter < 2 ^ 32
  pub media : n.media < 2 ^ 32
  pub some : 0 < length n.pairs
  pub counted : 2 + length n.pairs < 2 ^ 16
  pub each : All IsPair n.pairs

-- PID and BLP
abbrev pub pair_octets : Pair → List ℕ
pair_octets p = big_bytes 2 p.pid ++ big_bytes 2 p.blp

-- Version 2 without padding and message type 1, which is octet 129; packet type 205; the number of words
-- of 32 bits, less one; the two SSRCs; and the pairs.
abbrev pub nack_octets : Nack → List ℕ
nack_octets n =
    129 ∷ 205 ∷ big_bytes 2 (2 + length n.pairs) ++ big_bytes 4 n.reporter ++ big_bytes 4 n.media ++ flat_map pair_octets n.pairs

-- The octets spell the NACK.
pub record NackSpells (n : Nack) (octets : List ℕ) : Type 0 where
  pub nack : IsNack n
  pub spelled : octets ≡ nack_octets n

-- AES in counter mode (RFC 3711, section 4.1.1). A block of the counter is the number (k_s 2^16) XOR (SSRC 2^64) XOR (i 2^16) + j in
-- 16 octets: the salt, with the SSRC brought in at octets 4 to 7 and the index i at octets 8 to 13, and then j in two octets, since
-- the lowest 16 bits of the first number are zero and a packet has at most 2^16 blocks.
use Rattle.std.specs.Prelude.{ℕ, zero, suc, ◌+◌, ◌/◌, List, [], ◌++◌, length, replicate}
use Rattle.byteorder.specs.Endian.{big_bytes}
use Rattle.srtp.specs.Octets.{xor_octets}
use Rattle.srtp.specs.Aes.{aes128}

-- what stands before j in the blocks of a packet
abbrev pub counter_base : (salt : List ℕ) (ssrc index : ℕ) → List ℕ
counter_base salt ssrc index = xor_octets salt ((replicate 4 0 ++ big_bytes 4 ssrc) ++ big_bytes 6 index)

-- block j of the counter
abbrev pub counter_block : List ℕ → ℕ → List ℕ
counter_block base j = base ++ big_bytes 2 j

-- the first so many blocks of the keystream
unfoldable pub keystream : (key base : List ℕ) → ℕ → List ℕ
keystream key base zero = []
keystream key base (suc n) = keystream key base n ++ aes128 key (counter_block base n)

-- how many blocks it takes for so many octets
abbrev pub block_count : ℕ → ℕ
block_count n = (n + 15) / 16

-- The text by exclusive or with the keystream; what is left of the last block is not used. It is its own inverse.
unfoldable pub encrypted : (key base text : List ℕ) → List ℕ
encrypted key base text = xor_octets text (keystream key base (block_count (length text)))

-- The words of a set's bits, by their positions.
use Rattle.std.specs.Prelude.{◌≡◌, ◌≢◌, ℕ, ◌+◌, ◌*◌, ◌/◌, ◌%◌, ◌<◌}
use Rattle.stores.specs.declared.block.Block.{Block}
use Rattle.stores.specs.Bits.{turned}

-- the number of the word that has the bit of the position p, where there are so many words
abbrev pub word_of : (words front p : ℕ) → ℕ
word_of words front p = turned (64 * words) front p / 64

-- the number of that bit in its word
abbrev pub bit_in_word : (words front p : ℕ) → ℕ
bit_in_word words front p = turned (64 * words) front p % 64

-- a block of a set of so many words
pub record IsBlock (words front : ℕ) (block : Block) : Type 0 where
  pub word : block.word < words
  pub bit : block.bit < 64
  pub whole : block.start ≢ 0 → block.bit ≡ 0
  pub at : block.start < 64 * words → turned (64 * words) front block.start ≡ 64 * block.word + block.bit

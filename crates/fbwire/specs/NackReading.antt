-- What a reader of octets sees in them: each field where RFC 4585, sections 6.1 and 6.2.1, has it. That
-- the octets spell this NACK, and no other, is proved.
use Rattle.std.specs.Prelude.{ℕ, zero, suc, ◌/◌, List, [], ◌∷◌, length, drop}
use Rattle.byteorder.specs.Endian.{big_number}
use Rattle.fbwire.specs.declared.nack.Pair.{Pair}
use Rattle.fbwire.specs.Nack.{Nack}

-- the pair in the first four octets
abbrev pub pair_in : List ℕ → Pair
pair_in octets = record { pid = big_number 2 octets; blp = big_number 2 (drop 2 octets) }

-- the first pairs, so many of them
abbrev pub pairs_at : ℕ → List ℕ → List Pair
pairs_at zero octets = []
pairs_at (suc n) octets = pair_in octets ∷ pairs_at n (drop 4 octets)

-- the pairs that fit
abbrev pub pairs_in : List ℕ → List Pair
pairs_in octets = pairs_at (length octets / 4) octets

abbrev pub nack_in : List ℕ → Nack
nack_in octets =
    record {
      reporter = big_number 4 (drop 4 octets);
      media = big_number 4 (drop 8 octets);
      pairs = pairs_in (drop 12 octets);
    }

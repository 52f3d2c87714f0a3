-- Octets, 32-bit words and header extensions, written in hexadecimal.
use Rattle.std.specs.Prelude.{ℕ, ◌+◌, ◌*◌, ◌/◌, ◌%◌, ◌==◌, nat_le, List, [], ◌∷◌, length, drop, codes, if◌then◌else◌, Option, Some, None}
use Rattle.std.specs.Option.{option_map}
use Rattle.std.specs.Result.{result_ok}
use Rattle.std.specs.Str.{bytes_eq}
use Rattle.byteorder.specs.Endian.{big_number}
use Rattle.hex.specs.Hex.{decode_of}
use Rattle.arrayvec.specs.ArrayVec.{ArrayVec}
use Rattle.rtpwire.specs.RtpReading.{words_at}
use Rattle.rtpwire.specs.declared.content.Extension.{Extension}
use Rattle.lines.specs.Steps.{◌>>=◌}

-- the bounded vector with these items
abbrev pub vector_of : List ℕ → ArrayVec ℕ
vector_of items = record { items = items }

-- The octets that a word writes as pairs of hexadecimal digits of either case, none being `-`. An empty
-- word is refused.
abbrev pub octets_of_word : List ℕ → Option (List ℕ)
octets_of_word [] = None
octets_of_word (c ∷ cs) = if bytes_eq (c ∷ cs) (codes "-") then Some [] else result_ok (decode_of (c ∷ cs))

-- the octets that a word writes, if they are at most so many
abbrev pub octets_up_to : ℕ → List ℕ → Option (List ℕ)
octets_up_to most word = do
  octets ← octets_of_word word
  if nat_le (length octets) most then Some octets else None

-- octets as words of 32 bits in network order, if nothing is left over
abbrev pub whole_words : List ℕ → Option (List ℕ)
whole_words octets = if length octets % 4 == 0 then Some (words_at (length octets / 4) octets) else None

-- the identifiers that a word writes, 8 digits each and at most 15, none being `-`
abbrev pub sources_of_word : List ℕ → Option (List ℕ)
sources_of_word word = do
  octets ← octets_up_to (4 * 15) word
  whole_words octets

-- two octets that the profile defines, and whole words
abbrev pub extension_from : List ℕ → Option Extension
extension_from octets =
    if nat_le 2 (length octets)
    then option_map (λ words. record { profile = big_number 2 octets; words = vector_of words }) (whole_words (drop 2 octets))
    else None

-- What a word says of a header extension: `-` that there is none. Otherwise it writes the extension: 4
-- digits for what the profile defines, and 8 for each of at most 16 words.
abbrev pub extension_of_word : List ℕ → Option (Option Extension)
extension_of_word word =
    if bytes_eq word (codes "-") then Some None
    else do
      octets ← octets_up_to (2 + 4 * 16) word
      extension ← extension_from octets
      Some (Some extension)

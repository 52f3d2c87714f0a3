-- Octets, and what a packet carries, as words of a line.
use Rattle.std.specs.Prelude.{ℕ, Bool, true, false, List, [], ◌∷◌, ◌++◌, Option, Some, None, codes}
use Rattle.byteorder.specs.Endian.{big_bytes}
use Rattle.hex.specs.Hex.{encode_lower}
use Rattle.rtpwire.specs.Rtp.{word_octets}

-- each octet by two hexadecimal digits in lower case; no octets by a dash
abbrev pub octets_text : List ℕ → List ℕ
octets_text [] = codes "-"
octets_text (octet ∷ octets) = encode_lower (octet ∷ octets)

-- each identifier by eight hexadecimal digits, joined without a mark; no identifier by a dash
abbrev pub sources_text : List ℕ → List ℕ
sources_text sources = octets_text (word_octets sources)

-- The profile's 16 bits by four hexadecimal digits, and each word by eight; no extension by a dash. The
-- number of words is left out, since the digits tell it.
abbrev pub extension_text : Option (ℕ × List ℕ) → List ℕ
extension_text None = codes "-"
extension_text (Some (profile, words)) = encode_lower (big_bytes 2 profile ++ word_octets words)

-- the marker bit
abbrev pub marker_text : Bool → List ℕ
marker_text true = codes "1"
marker_text false = codes "0"

-- A word of a line as text.
use Rattle.std.specs.Prelude.{ℕ, List, ◌++◌}
use Rattle.std.specs.Fmt.{decimal}
use Rattle.byteorder.specs.Endian.{big_bytes}
use Rattle.hex.specs.Hex.{encode_lower}
use Rattle.lines.specs.declared.word.Word.{Word}
use Rattle.lines.specs.declared.word.Word.TheVariants.{Text, Decimal, Marker, Octets, Extension}
use Rattle.lines.specs.ContentText.{marker_text, octets_text}

abbrev pub word_text : Word → List ℕ
word_text (Text text) = text.now
word_text (Decimal number) = decimal number
word_text (Marker marker) = marker_text marker
word_text (Octets octets) = octets_text octets.now
word_text (Extension profile words) = encode_lower (big_bytes 2 profile ++ words.now)

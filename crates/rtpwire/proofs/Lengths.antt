-- How many octets a packet has.
use Rattle.std.proofs.Common.{◌≡◌, ℕ, ◌+◌, ◌*◌, ◌^◌, ◌<◌, List, ◌++◌, length, Option, Some, None, arith, sym, ◌∙◌, ap, length-append}
use Rattle.std.specs.Option.{option_map}
use Rattle.rtpwire.specs.declared.carried.Words.{Words}
use Rattle.rtpwire.specs.declared.content.Extension.{Extension}
use Rattle.rtpwire.specs.Carried.{words_of, extension_with}
use Rattle.rtpwire.specs.Content.{extension_of}
use Rattle.rtpwire.specs.Rtp.{RtpPacket, fixed_header, word_octets, extension_octets, header, written, written_padding}
use Rattle.rtpwire.proofs.WordsIn.{length-word_octets}
use Rattle.rtpwire.proofs.Written.{length-written_padding}

of_three : (a b c : List ℕ) → length (a ++ b ++ c) ≡ length a + length b + length c
of_three a b c = omega (arith, length-append (a ++ b) c, length-append a b)

pub length-header : (p : RtpPacket) → length (header p) ≡ 12 + 4 * length p.sources + length (extension_octets p.extension)
length-header p =
    of_three (fixed_header p) (word_octets p.sources) (extension_octets p.extension)
    ∙ ap (λ n. 12 + n + length (extension_octets p.extension)) (length-word_octets p.sources)

-- of an extension whose words lie elsewhere
abbrev octets_of : Option Extension → ℕ
octets_of extension = length (extension_octets (option_map extension_of extension))

pub length-some : (lent : Option (ℕ × Words)) (extension : Option Extension) (pair : ℕ × Words) → lent ≡ Some pair → option_map extension_with lent ≡ extension
    → length (extension_octets (option_map extension_of extension)) ≡ 4 + 4 * length (words_of pair.1)
length-some lent extension pair is same =
    let words : length (word_octets (words_of pair.1)) ≡ 4 * length (words_of pair.1) = length-word_octets (words_of pair.1) in
    let size : octets_of (Some (extension_with pair)) ≡ 4 + 4 * length (words_of pair.1) = omega arith in
    ap octets_of (sym same) ∙ ap (λ (e : Option (ℕ × Words)). octets_of (option_map extension_with e)) is ∙ size

pub length-none : (lent : Option (ℕ × Words)) (extension : Option Extension) → lent ≡ None → option_map extension_with lent ≡ extension
    → length (extension_octets (option_map extension_of extension)) ≡ 0
length-none lent extension is same =
    ap octets_of (sym same) ∙ ap (λ (e : Option (ℕ × Words)). octets_of (option_map extension_with e)) is

pub length-written : (p : RtpPacket) → p.padding < 2 ^ 8 → length (written p) ≡ length (header p) + length p.payload + p.padding
length-written p small =
    of_three (header p) p.payload (written_padding p.padding)
    ∙ ap (λ n. length (header p) + length p.payload + n) (length-written_padding p.padding small)

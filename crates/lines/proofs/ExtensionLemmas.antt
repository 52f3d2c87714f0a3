-- A header extension as a reader gives it.
use Rattle.std.proofs.Common.{◌≡◌, ℕ, List, ◌++◌, refl, ap, Option, Some, None, codes}
use Rattle.std.specs.Option.{option_map}
use Rattle.std.proofs.lemmas.Option.{same_Some}
use Rattle.byteorder.specs.Endian.{big_bytes}
use Rattle.hex.specs.Hex.{encode_lower}
use Rattle.rtpwire.specs.Rtp.{word_octets}
use Rattle.lines.specs.ContentText.{extension_text}

-- what the profile defines, and the octets of the words
abbrev pub with_octets : Option (ℕ × List ℕ) → Option (ℕ × List ℕ)
with_octets extension = option_map (λ e. (e.0, word_octets e.1)) extension

pub some_extension : (profile : ℕ) (octets : List ℕ) (extension : Option (ℕ × List ℕ)) → Some (profile, octets) ≡ with_octets extension
    → encode_lower (big_bytes 2 profile ++ octets) ≡ extension_text extension
some_extension profile octets None h = cc h
some_extension profile octets (Some e) h =
    ap (λ (x : ℕ × List ℕ). encode_lower (big_bytes 2 x.0 ++ x.1)) (same_Some (profile, octets) (e.0, word_octets e.1) h)

pub no_extension : (extension : Option (ℕ × List ℕ)) → None ≡ with_octets extension → codes "-" ≡ extension_text extension
no_extension None h = refl
no_extension (Some e) h = cc h

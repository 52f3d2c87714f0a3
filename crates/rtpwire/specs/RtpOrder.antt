-- The checks of an RTP packet in their order (RFC 3550, section 5.1, and appendix A.1 for the first ones).
use Rattle.std.specs.Prelude.{◌≡◌, ◌≢◌, ◌⊎◌, ℕ, ◌+◌, ◌-◌, ◌*◌, ◌<◌, ◌≤◌, IsTrue, List, [], ◌∷◌, length, slice_index}
use Rattle.rtpwire.specs.RtpChecks.{version_of, is_padded, is_extended, sources_end, word_count, header_end}

-- the octets end within the four octets of the header extension, or within its words
abbrev pub EndsInExtension : List ℕ → Type 0
EndsInExtension octets =
    (length octets < sources_end octets + 4) ⊎ (length octets < sources_end octets + 4 + 4 * word_count octets)

-- the last octet, which counts the padding, is 0, or leaves no octet behind the header to the payload
abbrev pub MiscountsPadding : List ℕ → Type 0
MiscountsPadding octets =
    let count = slice_index octets (length octets - 1) in
    (count ≡ 0) ⊎ (length octets ≤ header_end octets + count)

unfoldable pub rtp_order : List ℕ → List (ℕ × Type 0)
rtp_order octets =
    (1, length octets < 12)
    ∷ (2, version_of octets ≢ 2)
    ∷ (3, length octets < sources_end octets)
    ∷ (4, IsTrue (is_extended octets) × EndsInExtension octets)
    ∷ (5, IsTrue (is_padded octets) × MiscountsPadding octets)
    ∷ []

-- What a content is filled from, where it lies.
use Rattle.std.specs.Prelude.{◌⊎◌, ℕ, Bool, ◌/◌, ◌<◌, List, length, Option, IsSomeAnd}
use Rattle.std.specs.Option.{option_map}
use Rattle.rtpwire.specs.declared.carried.Words.{Words}
use Rattle.rtpwire.specs.declared.carried.Words.TheVariants.{Numbers, Octets}
use Rattle.rtpwire.specs.declared.content.Content.{Content}
use Rattle.rtpwire.specs.declared.content.Extension.{Extension}
use Rattle.rtpwire.specs.declared.limits.TheConstants.{MAX_PAYLOAD, MAX_SOURCES, MAX_WORDS}
use Rattle.rtpwire.specs.RtpReading.{words_at}

-- the numbers that lent words are
abbrev pub words_of : Words → List ℕ
words_of (Numbers numbers) = numbers.now
words_of (Octets octets) = words_at (length octets.now / 4) octets.now

-- a header extension with these words
abbrev pub extension_with : ℕ × Words → Extension
extension_with e = record { profile = e.0; words = record { items = words_of e.1 } }

-- the content with these fields
abbrev pub content_with : (payload : List ℕ) → (timestamp : ℕ) → (marker : Bool) → (sources : Words) → Option (ℕ × Words) → Content
content_with payload timestamp marker sources extension =
    record {
      payload = record { items = payload };
      timestamp = timestamp;
      marker = marker;
      sources = record { items = words_of sources };
      extension = option_map extension_with extension;
    }

-- No content holds so much.
abbrev pub HoldsNone : (payload : List ℕ) → (sources : Words) → Option (ℕ × Words) → Type 0
HoldsNone payload sources extension =
    (MAX_PAYLOAD < length payload) ⊎ (MAX_SOURCES < length (words_of sources)) ⊎ IsSomeAnd extension (λ e. MAX_WORDS < length (words_of e.1))

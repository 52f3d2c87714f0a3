-- A content as C says it and is told it: a header, and the payload in a buffer.
use Rattle.std.specs.Prelude.{◌≡◌, ◌≢◌, ℕ, ◌≤◌, ◌==◌, not, List, length, take, Option, Some, None, if◌then◌else◌}
use Rattle.std.specs.Option.{option_map}
use Rattle.rtpwire.specs.declared.content.Content.{Content}
use Rattle.rtpwire.specs.declared.content.Extension.{Extension}
use Rattle.rtpwire.specs.declared.limits.TheConstants.{MAX_PAYLOAD, MAX_SOURCES, MAX_WORDS}
use Rattle.rtpwire.specs.Buffer.{in_front}
use Rattle.rtpwire.specs.Content.{extension_of}
use Rattle.gozdrit.specs.declared.header.Header.{Header}

-- the header extension, if there is one, has no more words than there may be
abbrev pub HasWords : Header → Type 0
HasWords header = header.has_extension ≢ 0 → header.extension_words ≤ MAX_WORDS

-- no more than a content holds
pub record Fits (header : Header) (payload : List ℕ) : Type 0 where
  pub octets : length payload ≤ MAX_PAYLOAD
  pub sources : header.csrc_count ≤ MAX_SOURCES
  pub words : HasWords header

-- the profile and the words of the header extension, if there is one
abbrev pub extension_in : Header → Option (ℕ × List ℕ)
extension_in header =
    if header.has_extension == 0 then None else Some (header.extension_profile, take header.extension_words header.extension)

-- the content that a header and a payload say
pub record IsContent (header : Header) (payload : List ℕ) (content : Content) : Type 0 where
  pub octets : content.payload.items ≡ payload
  pub timestamp : content.timestamp ≡ header.timestamp
  pub marker : content.marker ≡ not (header.marker == 0)
  pub sources : content.sources.items ≡ take header.csrc_count header.csrcs
  pub extension : option_map extension_of content.extension ≡ extension_in header

-- where there is no extension, its profile and words stay as they were
abbrev pub TellsExtension : Header → Option Extension → Header → Type 0
TellsExtension old None new =
    (new.has_extension ≡ 0) × (new.extension_words ≡ 0) × (new.extension_profile ≡ old.extension_profile) × (new.extension ≡ old.extension)
TellsExtension old (Some e) new =
    (new.has_extension ≡ 1) × (new.extension_words ≡ length e.words.items) × (new.extension_profile ≡ e.profile) × (new.extension ≡ in_front e.words.items old.extension)

-- a header is told a content
pub record TellsHeader (old : Header) (content : Content) (new : Header) : Type 0 where
  pub timestamp : new.timestamp ≡ content.timestamp
  pub marker : new.marker ≡ (if content.marker then 1 else 0)
  pub source_count : new.csrc_count ≡ length content.sources.items
  pub sources : new.csrcs ≡ in_front content.sources.items old.csrcs
  pub extension : TellsExtension old content.extension new

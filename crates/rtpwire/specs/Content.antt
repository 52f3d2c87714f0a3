-- Contents, and the packets that carry them.
use Rattle.std.specs.Prelude.{ℕ, ◌<◌, ◌≤◌, ◌^◌, ◌⊎◌, List, [], length, None, false, IfSome, IsSomeAnd}
use Rattle.std.specs.Option.{option_map}
use Rattle.rtpwire.specs.declared.content.Content.{Content}
use Rattle.rtpwire.specs.declared.content.Extension.{Extension}
use Rattle.rtpwire.specs.declared.limits.TheConstants.{MAX_PAYLOAD, MAX_SOURCES, MAX_WORDS}
use Rattle.rtpwire.specs.Rtp.{RtpPacket, AreOctets, AreWords}

-- an extension as a packet has it
abbrev pub extension_of : Extension → ℕ × List ℕ
extension_of e = (e.profile, e.words.items)

-- the packet that carries a content under these numbers
abbrev pub packet_of : Content → (padding sequence payload_type ssrc : ℕ) → RtpPacket
packet_of content padding sequence payload_type ssrc =
    record {
      marker = content.marker;
      payload_type = payload_type;
      sequence = sequence;
      timestamp = content.timestamp;
      ssrc = ssrc;
      sources = content.sources.items;
      extension = option_map extension_of content.extension;
      payload = content.payload.items;
      padding = padding;
    }

-- what carries nothing
abbrev pub blank_content : Content
blank_content =
    record {
      payload = record { items = [] };
      timestamp = 0;
      marker = false;
      sources = record { items = [] };
      extension = None;
    }

-- No content holds what the packet carries. (That it has more sources than a content holds can't be: see
-- `IsPacket`.)
abbrev pub IsTooLong : RtpPacket → Type 0
IsTooLong p = (MAX_PAYLOAD < length p.payload) ⊎ IsSomeAnd p.extension (λ e. MAX_WORDS < length e.1)

-- what a header extension of a content holds
pub record HasWords (e : Extension) : Type 0 where
  pub profile : e.profile < 2 ^ 16
  pub count : length e.words.items ≤ MAX_WORDS
  pub words : AreWords e.words.items

-- What a content holds, whoever made it: nothing in `Content` says so, since a vector of a fixed capacity is
-- its items there.
pub record IsContent (content : Content) : Type 0 where
  pub octets : AreOctets content.payload.items
  pub octet_count : length content.payload.items ≤ MAX_PAYLOAD
  pub timestamp : content.timestamp < 2 ^ 32
  pub sources : AreWords content.sources.items
  pub source_count : length content.sources.items ≤ MAX_SOURCES
  pub extension : IfSome content.extension HasWords

-- Contents, and the packets that carry them.
use Rattle.std.proofs.Common.{ℕ, ◌^◌, ◌<◌, length, Option, Some, None, IfSome, IsSomeAnd, arith, inl, inr}
use Rattle.std.specs.Option.{option_map}
use Rattle.rtpwire.specs.declared.content.Content.{Content}
use Rattle.rtpwire.specs.declared.content.Extension.{Extension}
use Rattle.rtpwire.specs.declared.limits.TheConstants.{MAX_WORDS}
use Rattle.rtpwire.specs.Rtp.{IsPacket, IsExtension}
use Rattle.rtpwire.specs.Content.{packet_of, extension_of, HasWords, IsContent, IsTooLong}

few_words : (e : Option Extension) → IfSome e HasWords → IsSomeAnd (option_map extension_of e) (λ x. MAX_WORDS < length x.1) → ⊥
few_words None has many = absurd many
few_words (Some e) has many = let count = has.count in omega (arith, count, many)

pub not_too_long : (content : Content) (padding sequence payload_type ssrc : ℕ) → IsContent content → IsTooLong (packet_of content padding sequence payload_type ssrc) → ⊥
not_too_long content padding sequence payload_type ssrc is (inl long) = let count = is.octet_count in omega (arith, count, long)
not_too_long content padding sequence payload_type ssrc is (inr many) = few_words content.extension is.extension many

fits_extension : (e : Option Extension) → IfSome e HasWords → IfSome (option_map extension_of e) IsExtension
fits_extension None has = tt
fits_extension (Some e) has = let few = has.count in record { profile = has.profile; count = omega (arith, few); words = has.words }

pub carries : (content : Content) (padding sequence payload_type ssrc : ℕ) → IsContent content → padding < 2 ^ 8 → (0 < padding → 0 < length content.payload.items)
    → sequence < 2 ^ 16 → payload_type < 128 → ssrc < 2 ^ 32 → IsPacket (packet_of content padding sequence payload_type ssrc)
carries content padding sequence payload_type ssrc is small padded number type source =
    record {
      payload_type = type;
      sequence = number;
      timestamp = is.timestamp;
      ssrc = source;
      source_count = is.source_count;
      sources = is.sources;
      extension = fits_extension content.extension is.extension;
      payload = is.octets;
      padding = small;
      padded = padded;
    }

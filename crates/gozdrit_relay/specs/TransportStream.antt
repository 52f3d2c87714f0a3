-- MPEG-TS in packets of RTP (RFC 2250, section 2; RFC 3551, section 5).
use Rattle.std.specs.Prelude.{◌≡◌, ℕ, ◌+◌, ◌%◌, ◌==◌, ◌&&◌, not, List, [], ◌∷◌, length, take, get_or, min, if◌then◌else◌, Bool, false, None}
use Rattle.rtpwire.specs.Content.{packet_of}
use Rattle.rtpwire.specs.Rtp.{RtpPacket, RtpSpells}
use Rattle.rtpwire.specs.declared.content.Content.{Content}
use Rattle.gozdrit_relay.specs.declared.transport_stream.Packed.{Packed}
use Rattle.gozdrit_relay.specs.declared.transport_stream.Payloader.{Payloader}
use Rattle.gozdrit_relay.specs.declared.transport_stream.TheConstants.{MOST}

-- whole packets of 188 octets, one at least, of which the first begins with 0x47 (ISO/IEC 13818-1, section 2.4.3.2)
abbrev pub is_transport_stream : List ℕ → Bool
is_transport_stream octets = not (length octets == 0) && (length octets % 188 == 0 && (get_or octets 0 0 == 0x47))

-- one packet of RTP takes as many of them as a payload holds
abbrev pub taken_of : List ℕ → ℕ
taken_of octets = if is_transport_stream octets then min (length octets) MOST else 0

-- what is carried then, with no marker, source or extension
abbrev pub content_of : (octets : List ℕ) → (timestamp : ℕ) → Content
content_of octets timestamp =
    record {
      payload = record { items = octets };
      timestamp = timestamp;
      marker = false;
      sources = record { items = [] };
      extension = None;
    }

-- the packet of RTP that has so many octets from the front, at this moment of a clock of 90,000 ticks a second
abbrev pub packed : Payloader → (octets : List ℕ) → (taken timestamp : ℕ) → RtpPacket
packed p octets taken timestamp = packet_of (content_of (take taken octets) timestamp) 0 p.number (min p.media_type 127) p.ssrc

-- It is written, and the next one has the next number.
pub record Packs (old : Payloader) (octets : List ℕ) (timestamp : ℕ) (answer : Packed) (out : List ℕ) (new : Payloader) : Type 0 where
  pub taken : answer.taken ≡ taken_of octets
  pub spells : RtpSpells (packed old octets answer.taken timestamp) (take answer.len out)
  pub next : new ≡ record old { number = (old.number + 1) % 65536 }

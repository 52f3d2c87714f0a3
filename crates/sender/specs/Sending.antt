-- What a send answers, and the octets that it writes.
use Rattle.std.specs.Prelude.{◌≡◌, ℕ, ◌^◌, ◌<◌, ◌≤◌, List, length, take, Result, Ok, Err}
use Rattle.arrayvec.specs.ArrayVec.{ArrayVec}
use Rattle.places.specs.Place.{number}
use Rattle.rtpwire.specs.declared.content.Content.{Content}
use Rattle.rtpwire.specs.declared.fault.TooShort.{TooShort}
use Rattle.rtpwire.specs.Buffer.{WritesFront}
use Rattle.rtpwire.specs.Rtp.{RtpPacket, RtpSpells, written}
use Rattle.rtpwire.specs.Content.{packet_of, IsTooLong}
use Rattle.rtpwire.specs.Session.{Streams}
use Rattle.sender.specs.declared.fault.SendFault.{SendFault}
use Rattle.sender.specs.declared.fault.SendFault.TheVariants.{PaddedEmpty, Exhausted}
use Rattle.sender.specs.History.{SenderState, Sends}

-- padding stands only behind a payload (RFC 3550, section 5.1, leaves it open)
abbrev pub CanBePadded : Content → ℕ → Type 0
CanBePadded content padding = 0 < padding → 0 < length content.payload.items

-- the media packet of a place
abbrev pub media_packet : Streams → Content → (padding place : ℕ) → RtpPacket
media_packet s content padding place = packet_of content padding (number place) s.media_type s.media_ssrc

-- A content is sent at the next place: the octets spell its packet, with zeros for padding.
pub record SendsAt (s : Streams) (room : ℕ) (old : SenderState) (content : Content) (padding place : ℕ) (octets : List ℕ) (new : SenderState) : Type 0 where
  pub place_is : place ≡ old.next
  pub fits : place < 2 ^ 48
  pub padded : CanBePadded content padding
  pub holds : IsTooLong (media_packet s content padding place) → ⊥  -- a receiver's content can hold it
  pub spells : RtpSpells (media_packet s content padding place) octets
  pub written_so : octets ≡ written (media_packet s content padding place)
  pub sends : Sends room old content new

-- the answer of a send into a datagram that the caller lends, with the datagram
abbrev pub sent_in : ArrayVec ℕ → Result ℕ SendFault → Result (ℕ × ArrayVec ℕ) SendFault
sent_in datagram (Ok place) = Ok (place, datagram)
sent_in datagram (Err fault) = Err fault

-- What a send answers: padding without a payload (44), no place left (45), or a packet. A refusal changes
-- nothing.
abbrev pub SendsAny : Streams → (room : ℕ) → SenderState → Content → (padding : ℕ) → Result (ℕ × ArrayVec ℕ) SendFault → SenderState → Type 0
SendsAny s room old content padding (Ok sent) new = SendsAt s room old content padding sent.0 sent.1.items new
SendsAny s room old content padding (Err PaddedEmpty) new = (CanBePadded content padding → ⊥) × (new ≡ old)
SendsAny s room old content padding (Err Exhausted) new = CanBePadded content padding × (2 ^ 48 ≤ old.next) × (new ≡ old)

-- the answer of a send to the front of a slice, with the octets there as its datagram
abbrev pub sent_into : List ℕ → Result (ℕ × ℕ) SendFault → Result (ℕ × ArrayVec ℕ) SendFault
sent_into out (Ok sent) = Ok (sent.0, record { items = take sent.1 out })
sent_into out (Err fault) = Err fault

-- of a slice only the datagram's octets are written, and of a refusal none
abbrev pub WritesSent : List ℕ → Result (ℕ × ℕ) SendFault → List ℕ → Type 0
WritesSent out (Ok sent) out' = WritesFront sent.1 out out'
WritesSent out (Err fault) out' = out' ≡ out

-- how many octets the packet of a content has
abbrev pub packet_length : Streams → SenderState → Content → (padding : ℕ) → ℕ
packet_length s old content padding = length (written (media_packet s content padding old.next))

-- What a send to the front of a slice answers: a send as any other, where the slice has room for the packet, and else
-- how many octets the packet has; then nothing changes.
abbrev pub SendsInto : Streams → (room : ℕ) → SenderState → Content → (padding : ℕ) → List ℕ → Result (Result (ℕ × ℕ) SendFault) TooShort → List ℕ → SenderState → Type 0
SendsInto s room old content padding out (Ok answer) out' new =
    (packet_length s old content padding ≤ length out) × SendsAny s room old content padding (sent_into out' answer) new × WritesSent out answer out'
SendsInto s room old content padding out (Err short) out' new =
    (short.needed ≡ packet_length s old content padding) × (length out < short.needed) × (out' ≡ out) × (new ≡ old)

-- What the structs and buffers of C are told.
use Rattle.std.specs.Prelude.{◌≡◌, ℕ, ◌/◌, ◌≤◌, List, length, Option, Some, None}
use Rattle.rtpwire.specs.declared.content.Content.{Content}
use Rattle.receiver.specs.declared.answer.Played.{Played}
use Rattle.receiver.specs.declared.answer.Played.TheVariants.{Packet, Gap, Wait}
use Rattle.gozdrit.specs.declared.answers.KnownTimeout.{KnownTimeout}
use Rattle.gozdrit.specs.declared.answers.KnownSequence.{KnownSequence}
use Rattle.gozdrit.specs.declared.answers.KnownSsrc.{KnownSsrc}
use Rattle.gozdrit.specs.declared.answers.KnownTimes.{KnownTimes}
use Rattle.gozdrit.specs.declared.answers.PlayedPacket.{PlayedPacket}
use Rattle.receiver.specs.Config.{Config}
use Rattle.rtpwire.specs.Buffer.{in_front}
use Rattle.timing.specs.declared.round_trip.Smoothed.{Smoothed}
use Rattle.gozdrit.specs.Packet.{TellsHeader}

-- A content is told by its payload's length, its header, and the payload at the front of the buffer.
pub record TellsContent (content : Content) (old : PlayedPacket) (payload : List ℕ) (new : PlayedPacket) (payload' : List ℕ) : Type 0 where
  pub size_is : new.size ≡ old.size
  pub length_is : new.length ≡ length content.payload.items
  pub header_is : TellsHeader old.header content new.header
  pub octets : payload' ≡ in_front content.payload.items payload

-- the buffer has room for what a play gives
abbrev pub HasRoom : Played → (payload : List ℕ) → Type 0
HasRoom Wait payload = Unit {0}
HasRoom (Packet place content) payload = length content.payload.items ≤ length payload
HasRoom (Gap place) payload = Unit {0}

-- An answer to a play is told: a wait by its kind alone, a gap with its number, and a packet with its number and content.
abbrev pub TellsPlayed : Played → (old : PlayedPacket) → (payload : List ℕ) → (new : PlayedPacket) → (payload' : List ℕ) → Type 0
TellsPlayed Wait old payload new payload' = (new ≡ record old { kind = 0 }) × (payload' ≡ payload)
TellsPlayed (Packet place content) old payload new payload' = (new.kind ≡ 1) × (new.sequence ≡ place) × TellsContent content old payload new payload'
TellsPlayed (Gap place) old payload new payload' = (new ≡ record old { kind = 2; sequence = place }) × (payload' ≡ payload)

-- what may be unknown is told; where it is, its field stays
abbrev pub TellsSequence : Option ℕ → KnownSequence → KnownSequence → Type 0
TellsSequence (Some place) old new = new ≡ record old { sequence = place; known = 1 }
TellsSequence None old new = new ≡ record old { known = 0 }

abbrev pub TellsSsrc : Option ℕ → KnownSsrc → KnownSsrc → Type 0
TellsSsrc (Some ssrc) old new = new ≡ record old { ssrc = ssrc; known = 1 }
TellsSsrc None old new = new ≡ record old { known = 0 }

abbrev pub TellsTimeout : Option ℕ → KnownTimeout → KnownTimeout → Type 0
TellsTimeout (Some moment) old new = new ≡ record old { time = moment; known = 1 }
TellsTimeout None old new = new ≡ record old { known = 0 }

-- the times in force, and the round trip, where it was measured: RFC 6298, section 2, has it and its variation smoothed
abbrev pub TellsTimes : Config → Option Smoothed → KnownTimes → KnownTimes → Type 0
TellsTimes c (Some s) old new = new ≡ record { size = old.size; reorder_delay = c.delay; nack_interval = c.retry; round_trip = s.time / 8; variation = s.variation / 4; known = 1 }
TellsTimes c None old new = new ≡ record old { reorder_delay = c.delay; nack_interval = c.retry; known = 0 }

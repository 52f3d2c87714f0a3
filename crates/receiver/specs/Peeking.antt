-- What a play gives, by the front of the window, and what it leaves: for callers that are lent it first and pass it then.
use Rattle.std.specs.Prelude.{ℕ, ◌-◌, ◌&&◌, Bool, true, false, Option, Some, None, if◌then◌else◌, nat_le}
use Rattle.stores.specs.declared.slot.Slot.{Slot}
use Rattle.stores.specs.declared.slot.Slot.TheVariants.{Held, Missing}
use Rattle.stores.specs.Span.{Span, front_of, without_front}
use Rattle.receiver.specs.declared.answer.Played.{Played}
use Rattle.receiver.specs.declared.answer.Played.TheVariants.{Packet, Gap, Wait}
use Rattle.receiver.specs.declared.answer.Peeked.{Peeked}
use Rattle.receiver.specs.declared.answer.Peeked.TheVariants as peeked
use Rattle.receiver.specs.Receiver.{Receiving}

-- what is lent, as a play gives it away
abbrev pub played_of : Peeked → Played
played_of (peeked.Packet place content) = Packet place content.now
played_of (peeked.Gap place) = Gap place
played_of peeked.Wait = Wait

-- whether the slot at the front is to be passed: it is held, or its patience has passed
abbrev pub is_ready : (patience now : ℕ) → (front : Option Slot) → Bool
is_ready patience now None = false
is_ready patience now (Some (Held content)) = true
is_ready patience now (Some (Missing noticed asks last)) = nat_le noticed now && nat_le patience (now - noticed)

-- what is given where it is
abbrev pub given_at : (place : ℕ) → (front : Option Slot) → Played
given_at place None = Wait
given_at place (Some (Held content)) = Packet place content
given_at place (Some (Missing noticed asks last)) = Gap place

-- what a play gives, by the cursor and the slot at it
abbrev pub play_at : (patience now : ℕ) → (cursor : Option ℕ) → (front : Option Slot) → Played
play_at patience now None front = Wait
play_at patience now (Some k) front = if is_ready patience now front then given_at k front else Wait

abbrev pub play_of : (patience now : ℕ) → Span → Played
play_of patience now s = play_at patience now s.cursor (front_of s)

-- the window after it
abbrev pub passed : Played → Span → Span
passed Wait s = s
passed (Packet place content) s = without_front s
passed (Gap place) s = without_front s

-- the receiver after it
abbrev pub receiver_passed : Played → Receiving → Receiving
receiver_passed played r = record { config = r.config; span = passed played r.span; learnt = r.learnt }

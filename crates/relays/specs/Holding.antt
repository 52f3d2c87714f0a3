-- How packets are held for a player.
use Rattle.std.specs.Prelude.{ℕ, zero, suc, ◌+◌, ◌-◌, ◌^◌, List, drop, length, nat_lt, Option, Some, None, Result, Ok, if◌then◌else◌}
use Rattle.byteorder.specs.Endian.{big_number}
use Rattle.stores.specs.declared.slot.Slot.{Slot}
use Rattle.stores.specs.declared.slot.Slot.TheVariants.{Held, Missing}
use Rattle.stores.specs.Span.{Span, front_of}
use Rattle.stores.specs.ByPlace.{slot_at}
use Rattle.receiver.specs.declared.answer.Played.{Played}
use Rattle.receiver.specs.declared.answer.Played.TheVariants.{Packet, Gap, Wait}
use Rattle.receiver.specs.declared.fault.ReceiveFault.{ReceiveFault}
use Rattle.endpoint.specs.declared.heard.Heard.{Heard}
use Rattle.endpoint.specs.declared.heard.Heard.TheVariants as heard
use Rattle.timing.specs.declared.playout.Playout.{Playout}
use Rattle.timing.specs.Playout.{heard_at, new_playout, release_at}

-- the timestamp of a packet (RFC 3550, section 5.1, has it at the fifth octet)
abbrev pub timestamp_of : (octets : List ℕ) → ℕ
timestamp_of octets = if nat_lt (length octets) 8 then 0 else big_number 4 (drop 4 octets)

-- the clock hears media, and begins anew where the stream restarts
abbrev pub clock_after : Result Heard ReceiveFault → (timestamp now : ℕ) → Option Playout → Option Playout
clock_after answer timestamp now None = None
clock_after (Ok (heard.Media taken)) timestamp now (Some p) = Some (heard_at p timestamp now)
clock_after (Ok (heard.Restarted restart)) timestamp now (Some p) = Some (heard_at (new_playout p.rate) timestamp now)
clock_after answer timestamp now (Some p) = Some p

-- the moment at which a packet leaves; where none is held it may leave at any
abbrev pub release_by : Option Playout → (timestamp latency : ℕ) → ℕ
release_by None timestamp latency = 0
release_by (Some p) timestamp latency = release_at p timestamp latency

-- the timestamp of what a place holds
abbrev pub stamp_in : Option Slot → Option ℕ
stamp_in (Some (Held content)) = Some content.timestamp
stamp_in o = None

-- The timestamp of the first packet that is held from a place on, of the next `ahead` places.
abbrev pub stamp_or : Option ℕ → (rest : Option ℕ) → Option ℕ
stamp_or (Some timestamp) rest = Some timestamp
stamp_or None rest = rest

unfoldable pub stamp_from : Span → (ahead place : ℕ) → Option ℕ
stamp_from s zero place = None
stamp_from s (suc ahead) place = if nat_lt place (2 ^ 48) then stamp_or (stamp_in (slot_at s place)) (stamp_from s ahead (place + 1)) else None

-- How long the next place is waited for, by the clock that packets are held by: until the packet behind it is to leave, which was sent
-- after it; or as long as the latency, where that was to leave before the place was noticed.
abbrev pub until_moment : (moment latency noticed : ℕ) → ℕ
until_moment moment latency noticed = if nat_lt noticed moment then moment - noticed else latency

abbrev pub until_stamp : Playout → (latency noticed : ℕ) → Option ℕ → ℕ
until_stamp p latency noticed None = latency
until_stamp p latency noticed (Some timestamp) = until_moment (release_at p timestamp latency) latency noticed

abbrev pub wait_at : Option Playout → (latency : ℕ) → Span → (cursor : Option ℕ) → Option Slot → ℕ
wait_at (Some p) latency s (Some cursor) (Some (Missing noticed asks last)) = until_stamp p latency noticed (stamp_from s 64 (cursor + 1))
wait_at hold latency s cursor front = latency

abbrev pub wait_by : Option Playout → (latency : ℕ) → Span → ℕ
wait_by hold latency s = wait_at hold latency s s.cursor (front_of s)

-- How much of the latency asks have to fit into, where packets came so late behind later ones: where packets are held, a place is given
-- up by when it was sent, and the packet that showed it to be missing may itself have come so late.
abbrev pub asking_time : Option Playout → (latency late : ℕ) → ℕ
asking_time None latency late = latency
asking_time (Some p) latency late = latency - late

-- A packet that is to be played is held until its moment has come. A place that is given up is so at once.
abbrev pub held_by : Option Playout → (latency now : ℕ) → Played → Played
held_by hold latency now (Packet place content) = if nat_lt now (release_by hold content.timestamp latency) then Wait else Packet place content
held_by hold latency now (Gap place) = Gap place
held_by hold latency now Wait = Wait

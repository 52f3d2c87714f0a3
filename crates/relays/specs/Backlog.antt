-- How much is marked to be retransmitted. (The rule is this project's own: RFC 4588, section 7, has retransmissions share the rate of the session,
-- and RFC 8289, section 3, tells a queue that stands from one that a burst makes.)
use Rattle.std.specs.Prelude.{ℕ, ◌+◌, ◌-◌, ◌*◌, ◌/◌, Bool, false, ◌&&◌, nat_le, nat_lt, Option, Some, None, Result, Ok, if◌then◌else◌}
use Rattle.fbwire.specs.declared.fault.FeedbackFault.{FeedbackFault}
use Rattle.endpoint.specs.declared.resend_counts.ResendCounts.{ResendCounts}
use Rattle.endpoint.specs.declared.told.Told.{Told}
use Rattle.endpoint.specs.declared.told.Told.TheVariants as told
use Rattle.relays.specs.Capping.{capped}
use Rattle.relays.specs.declared.backlog.Backlog.{Backlog}

-- nothing was marked or measured
abbrev pub new_backlog : Backlog
new_backlog = record { packets = 0; mean = 0; since = None; last = 0 }

-- a packet of media of so many octets moves their mean by an eighth
abbrev pub measured_with : Backlog → (octets : ℕ) → Backlog
measured_with b octets = record b { mean = capped (capped (b.mean * 7) + octets) / 8 }

-- so many packets more are marked, or fewer, or none is
abbrev pub marked_more : Backlog → (packets : ℕ) → Backlog
marked_more b packets = record b { packets = capped (b.packets + packets) }

abbrev pub less_by : (packets : ℕ) → Backlog → Backlog
less_by packets b = record b { packets = b.packets - packets }

abbrev pub emptied : Backlog → Backlog
emptied b = record b { packets = 0 }

-- where no place is marked none is counted, whatever the history dropped
abbrev pub kept_beside : (next : Option ℕ) → Backlog → Backlog
kept_beside None b = emptied b
kept_beside (Some place) b = b

-- what feedback marked
abbrev pub marked_by : Result Told FeedbackFault → Backlog → Backlog
marked_by (Ok (told.Feedback shared)) b = marked_more b shared.places
marked_by answer b = b

-- with one that was retransmitted go those that were passed over on the way to it
abbrev pub gone : (before after : ResendCounts) → ℕ
gone before after = capped (capped ((after.early - before.early) + (after.expired - before.expired)) + 1)

-- it is more than one packet, and more than so many bits
abbrev pub is_beyond : Backlog → (room : ℕ) → Bool
is_beyond b room = nat_lt 1 b.packets && nat_lt room (capped (capped (b.packets * b.mean) * 8))

-- It stands since feedback found more than may leave soon, if no second passed in which none did.
abbrev pub begun_at : (since : Option ℕ) → (last now : ℕ) → ℕ
begun_at None last now = now
begun_at (Some since) last now = if nat_le (now - last) 1000 then since else now

-- feedback is heard where so many bits may leave soon
abbrev pub since_then : (since : Option ℕ) → (last now : ℕ) → Option ℕ
since_then since last now = if nat_lt 1000 (now - last) then None else since

abbrev pub seen_at : Backlog → (room now : ℕ) → Backlog
seen_at b room now =
    if is_beyond b room then record b { since = Some (begun_at b.since b.last now); last = now } else record b { since = since_then b.since b.last now }

-- it stands for a second
abbrev pub has_stood : (since : Option ℕ) → (now : ℕ) → Bool
has_stood None now = false
has_stood (Some since) now = nat_le 1000 (now - since)

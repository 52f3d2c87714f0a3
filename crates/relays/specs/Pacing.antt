-- How fast retransmissions leave (RFC 4588, section 7). By a share of the media they are earned by the media that leaves, and each one spends what
-- was earned. By that and by kilobits a second each pours its bits into a bucket, out of which so many run each millisecond. Moments are in
-- milliseconds.
use Rattle.std.specs.Prelude.{ℕ, Bool, true, false, ◌+◌, ◌*◌, ◌/◌, ◌-◌, ◌^◌, ◌||◌, ◌&&◌, nat_le, nat_lt, max, min}
use Rattle.rtpwire.specs.declared.limits.TheConstants.{MAX_DATAGRAM}
pub use Rattle.relays.specs.Capping.{capped}
use Rattle.relays.specs.MediaRate.{measured_after, measured_at, unmeasured}
use Rattle.relays.specs.declared.pace.Pace.{Pace}
use Rattle.relays.specs.declared.pace.Rate.{Rate}
use Rattle.relays.specs.declared.pace.Rate.TheVariants.{Free, Kilobits, Percent}

abbrev pub is_free : Rate → Bool
is_free Free = true
is_free rate = false

-- ---- what is earned

-- so many bits of media earn half of the share of them
abbrev pub earned_by : Rate → (bits : ℕ) → ℕ
earned_by (Percent share) bits = capped (share * bits) / 200
earned_by rate bits = 0

-- beside media of so many bits a second no more is saved up than a second of it earns, and 32 KiB
abbrev pub most_beside : Rate → (bits : ℕ) → ℕ
most_beside rate bits = 262144 + earned_by rate bits

-- by a share one may leave where the longest datagram's bits are saved up
abbrev pub least_by : Rate → ℕ
least_by (Percent share) = MAX_DATAGRAM * 8
least_by rate = 0

-- ---- what runs out

-- a rate in kilobits a second, beside media of so many bits a second; it is one at least, so that what waits leaves at last
abbrev pub kilobits_beside : Rate → (bits : ℕ) → ℕ
kilobits_beside (Kilobits kilobits) bits = max kilobits 1
kilobits_beside rate bits = max (earned_by rate bits / 1000) 1

-- what was earned leaves eight times as fast, up to 64 megabits a second or twice the rate
abbrev pub fast_of : (kilobits : ℕ) → ℕ
fast_of kilobits = min (capped (kilobits * 8)) (max (capped (kilobits * 2)) 64000)

-- so much runs out of the bucket each millisecond
abbrev pub drain_beside : Rate → (bits : ℕ) → ℕ
drain_beside (Percent share) bits = fast_of (kilobits_beside (Percent share) bits)
drain_beside rate bits = kilobits_beside rate bits

abbrev pub drain_of : Pace → ℕ
drain_of p = drain_beside p.rate p.media.bits

-- one may leave where no more than so much is left in the bucket: 64 KiB by a share, and nothing by kilobits a second
abbrev pub depth_by : Rate → ℕ
depth_by (Percent share) = 524288
depth_by rate = 0

-- what is left in the bucket at a moment
abbrev pub owed_at : Pace → (now : ℕ) → ℕ
owed_at p now = p.owed - capped (drain_of p * (now - p.since))

-- ---- what may leave soon

-- how far ahead that looks, in milliseconds: twice as far by kilobits a second, since nothing is saved up there
abbrev pub span_of : Rate → ℕ
span_of (Kilobits kilobits) = 200
span_of rate = 100

-- what is saved up
abbrev pub saved_of : Rate → (credit : ℕ) → ℕ
saved_of (Percent share) credit = credit
saved_of rate credit = 0

-- so many bits may leave in that time where media goes on as it did: what is saved up, and what the rate has
abbrev pub room_by : Rate → (credit bits : ℕ) → ℕ
room_by Free credit bits = 2 ^ 64 - 1
room_by rate credit bits = capped (saved_of rate credit + capped (kilobits_beside rate bits * span_of rate))

abbrev pub room_of : Pace → ℕ
room_of p = room_by p.rate p.credit p.media.bits

-- little is left of what was saved up: less than an eighth of the most
abbrev pub is_little : Rate → (credit most : ℕ) → Bool
is_little (Percent share) credit most = nat_lt (capped (credit * 8)) most
is_little rate credit most = false

abbrev pub is_scarce : Pace → (now : ℕ) → Bool
is_scarce p now = is_little p.rate p.credit (most_beside p.rate (measured_at p.media now))

-- ---- a pace

abbrev pub new_pace : Rate → Pace
new_pace rate = record { rate = rate; media = unmeasured; credit = 262144; owed = 0; since = 0 }

-- one may leave where enough is saved up, and little enough is left in the bucket
abbrev pub is_open : Pace → (now : ℕ) → Bool
is_open p now = is_free p.rate || (nat_le (least_by p.rate) p.credit && nat_le (owed_at p now) (depth_by p.rate))

-- a retransmission of so many octets leaves
abbrev pub opens_after : Pace → (octets now : ℕ) → Pace
opens_after p octets now = record p { credit = p.credit - capped (octets * 8); owed = capped (owed_at p now + capped (octets * 8)); since = max p.since now }

-- a media packet of so many octets leaves: the rate follows it, and it earns what retransmissions may have
abbrev pub paced_beside : Pace → (octets now : ℕ) → Pace
paced_beside p octets now = let media = measured_after p.media octets now in
    record p { media = media; credit = min (capped (p.credit + earned_by p.rate (capped (octets * 8)))) (most_beside p.rate media.bits); owed = owed_at p now; since = max p.since now }

-- feedback is heard: of what was earned no more stays than the media as it is then would have saved up
abbrev pub fallen : Pace → (now : ℕ) → Pace
fallen p now = record p { credit = min p.credit (most_beside p.rate (measured_at p.media now)) }

-- A run of a pace: retransmissions, each at a moment at which the pace is open, media packets that leave whenever they come, and feedback that is
-- heard.
use Rattle.std.specs.Prelude.{◌≡◌, ℕ, ◌+◌, ◌≤◌, true, List, [], ◌∷◌}
use Rattle.rtpwire.specs.declared.limits.TheConstants.{MAX_DATAGRAM}
use Rattle.relays.specs.Pacing.{drain_of, fallen, is_open, opens_after, paced_beside}
use Rattle.relays.specs.declared.pace.Pace.{Pace}

-- a packet of so many octets leaves at a moment, or feedback is heard
pub data Step : Type 0 where
  repaired : (octets now : ℕ) → Step  -- a retransmission
  sent : (octets now : ℕ) → Step  -- media
  heard : (now : ℕ) → Step  -- feedback

-- a pace after these steps, the newest first
abbrev pub pace_after : Pace → List Step → Pace
pace_after p [] = p
pace_after p (repaired octets now ∷ before) = opens_after (pace_after p before) octets now
pace_after p (sent octets now ∷ before) = paced_beside (pace_after p before) octets now
pace_after p (heard now ∷ before) = fallen (pace_after p before) now

-- the pace was open for each retransmission, and none was longer than a datagram is
abbrev pub MayLeave : Pace → List Step → Type 0
MayLeave p [] = Unit {0}
MayLeave p (repaired octets now ∷ before) = (octets ≤ MAX_DATAGRAM) × (is_open (pace_after p before) now ≡ true) × MayLeave p before
MayLeave p (sent octets now ∷ before) = MayLeave p before
MayLeave p (heard now ∷ before) = MayLeave p before

abbrev pub octets_repaired : List Step → ℕ
octets_repaired [] = 0
octets_repaired (repaired octets now ∷ before) = octets + octets_repaired before
octets_repaired (sent octets now ∷ before) = octets_repaired before
octets_repaired (heard now ∷ before) = octets_repaired before

abbrev pub octets_sent : List Step → ℕ
octets_sent [] = 0
octets_sent (repaired octets now ∷ before) = octets_sent before
octets_sent (sent octets now ∷ before) = octets + octets_sent before
octets_sent (heard now ∷ before) = octets_sent before

-- at a moment no media left for a second
abbrev pub IsSilentAt : (now : ℕ) → List Step → Type 0
IsSilentAt now [] = Unit {0}
IsSilentAt now (repaired octets at ∷ before) = IsSilentAt now before
IsSilentAt now (sent octets at ∷ before) = (at + 1000 ≤ now) × IsSilentAt now before
IsSilentAt now (heard at ∷ before) = IsSilentAt now before

abbrev pub moment_of : Step → ℕ
moment_of (repaired octets now) = now
moment_of (sent octets now) = now
moment_of (heard now) = now

abbrev pub AreBetween : (start end : ℕ) → List Step → Type 0
AreBetween start end [] = Unit {0}
AreBetween start end (one ∷ before) = (start ≤ moment_of one) × (moment_of one ≤ end) × AreBetween start end before

-- at no time more than so many kilobits a second run out of the bucket
abbrev pub DrainsUpTo : (most : ℕ) → Pace → List Step → Type 0
DrainsUpTo most p [] = drain_of p ≤ most
DrainsUpTo most p (one ∷ before) = (drain_of (pace_after p (one ∷ before)) ≤ most) × DrainsUpTo most p before

-- retransmissions of so many octets leave at a moment, the newest first
abbrev pub after_all : Pace → (now : ℕ) → (octets : List ℕ) → Pace
after_all p now [] = p
after_all p now (octets ∷ before) = opens_after (after_all p now before) octets now

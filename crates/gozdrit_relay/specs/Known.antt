-- What is known of a session, and which one a packet may begin.
use Rattle.std.specs.Prelude.{◌≡◌, ℕ, ◌+◌, ◌%◌, ◌^◌, ◌==◌, ◌||◌, Bool, false, true, not, nat_le, Option, Some, None, if◌then◌else◌}
use Rattle.std.specs.Option.{option_map}
use Rattle.rtpwire.specs.Rtp.{RtpPacket}
use Rattle.rtpwire.specs.Session.{Streams, HasAnyMediaType, HasSsrcs, streams}
use Rattle.gozdrit_relay.specs.declared.known.Known.{Known}
use Rattle.gozdrit_relay.specs.declared.machine.Beginning.{Beginning}

-- what an option gives, or else what is learnt
abbrev pub given : Option ℕ → (learnt : ℕ) → ℕ
given None learnt = learnt
given (Some n) learnt = n

-- The SSRC of the retransmissions is the media's and one, and the receiver's own the next that is neither.
abbrev pub rtx_ssrc_of : Known → (ssrc : ℕ) → ℕ
rtx_ssrc_of k ssrc = given k.rtx_ssrc ((ssrc + 1) % 2 ^ 32)

abbrev pub own_ssrc : (ssrc rtx_ssrc : ℕ) → ℕ
own_ssrc ssrc rtx_ssrc = if rtx_ssrc == (ssrc + 2) % 2 ^ 32 then (ssrc + 3) % 2 ^ 32 else (ssrc + 2) % 2 ^ 32

-- the one that was drawn, if it is neither of both
abbrev pub own_for : Option ℕ → (ssrc rtx_ssrc : ℕ) → ℕ
own_for None ssrc rtx_ssrc = own_ssrc ssrc rtx_ssrc
own_for (Some drawn) ssrc rtx_ssrc = if (drawn == ssrc) || (drawn == rtx_ssrc) then own_ssrc ssrc rtx_ssrc else drawn

-- Under a key each session has another SSRC than those before: four behind the last one's, so that none of its own is one of theirs.
abbrev pub renewed : (renews : Bool) → Known → Known
renewed false k = k
renewed true k = record k { ssrc = option_map (λ ssrc. (ssrc + 4) % 2 ^ 32) k.ssrc }

-- the type of the retransmissions: the dynamic one behind the media's, or 97 for one that is static
abbrev pub beside : (media_type : ℕ) → ℕ
beside media_type =
    if not (nat_le 96 media_type) then 97 else (if nat_le media_type 126 then media_type + 1 else 126)

-- the session of a packet under an SSRC
abbrev pub session_of : Known → (ssrc media_type : ℕ) → Streams
session_of k ssrc media_type =
    streams ssrc media_type (rtx_ssrc_of k ssrc) (given k.rtx_type (beside media_type)) (own_for k.own ssrc (rtx_ssrc_of k ssrc))

abbrev pub is_of_type : Option ℕ → (media_type : ℕ) → Bool
is_of_type None media_type = true
is_of_type (Some wanted) media_type = wanted == media_type

-- There is such a session, if the packet has the wanted type, and the session's types and SSRCs are those of one.
abbrev pub IsSessionOf : Known → RtpPacket → (ssrc : ℕ) → Option Streams → Type 0
IsSessionOf k p ssrc (Some s) =
    (is_of_type k.media_type p.payload_type ≡ true) × (s ≡ session_of k ssrc p.payload_type) × HasAnyMediaType s × HasSsrcs s
IsSessionOf k p ssrc None =
    is_of_type k.media_type p.payload_type ≡ true → HasAnyMediaType (session_of k ssrc p.payload_type) → HasSsrcs (session_of k ssrc p.payload_type) → ⊥

-- which session a packet may begin under an SSRC
abbrev pub BeginsUnder : Known → RtpPacket → (ssrc : ℕ) → Option Beginning → Type 0
BeginsUnder k p ssrc None = IsSessionOf k p ssrc None
BeginsUnder k p ssrc (Some b) = IsSessionOf k p ssrc (Some b.session) × (b.ssrc ≡ p.ssrc) × (b.number ≡ p.sequence)

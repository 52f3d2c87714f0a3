-- The checks of a datagram at a receiver in their order, each as a condition on the octets and on the receiver before:
-- the table of docs/PROTOCOL.md, "The receiver's window". `Heard` has the same order in the way that it is written.
use Rattle.std.specs.Prelude.{◌≡◌, ◌≢◌, ◌⊎◌, ℕ, ◌+◌, ◌-◌, ◌%◌, ◌^◌, ◌<◌, ◌≤◌, ◌==◌, nat_lt, true, false, List, [], ◌∷◌, ◌++◌, length, Option, None, IsNone, IsSome, IsSomeAnd, MatchOption, if◌then◌else◌}
use Rattle.rtpwire.specs.declared.limits.TheConstants.{MAX_PAYLOAD, MAX_WORDS}
use Rattle.rtpwire.specs.Rtp.{RtpPacket}
use Rattle.rtpwire.specs.RtpReading.{packet_in}
use Rattle.rtpwire.specs.RtpOrder.{rtp_order}
use Rattle.rtpwire.specs.Retransmission.{original_in}
use Rattle.receiver.specs.Config.{Config}
use Rattle.receiver.specs.Window.{ReceiverState}
use Rattle.receiver.specs.Streams.{learnt_by}

-- the SSRC of the retransmissions is still to be learnt
pub record IsToLearn (c : Config) (old : Option ReceiverState) : Type 0 where
  pub learns : c.learns ≡ true
  pub nothing : learnt_by old ≡ None

-- The SSRC is not that of the retransmissions: of the session's at a receiver that does not learn, and of the one
-- that was learnt at one that does. While that is to be learnt, the receiver's own is none.
abbrev pub IsNoRepairSource : Config → Option ReceiverState → (ssrc : ℕ) → Type 0
IsNoRepairSource c old ssrc =
    ((c.learns ≡ false) × (ssrc ≢ c.session.repair_ssrc))
    ⊎ ((c.learns ≡ true) × MatchOption (learnt_by old) (ssrc ≡ c.session.receiver_ssrc) (λ known. ssrc ≢ known))

-- the payload type is not that of the stream that has the SSRC
abbrev pub HasOtherType : Config → RtpPacket → Type 0
HasOtherType c p =
    ((p.ssrc ≡ c.session.media_ssrc) × (p.payload_type ≢ c.session.media_type))
    ⊎ ((p.ssrc ≢ c.session.media_ssrc) × (p.payload_type ≢ c.session.repair_type))

-- a payload that no content has, behind the two octets of the original's number in a retransmission, or an extension that
-- none has
abbrev pub CarriesTooMuch : Config → RtpPacket → Type 0
CarriesTooMuch c p =
    ((p.ssrc ≡ c.session.media_ssrc) × (MAX_PAYLOAD < length p.payload))
    ⊎ ((p.ssrc ≢ c.session.media_ssrc) × (2 + MAX_PAYLOAD < length p.payload))
    ⊎ IsSomeAnd p.extension (λ e. MAX_WORDS < length e.1)

-- the sequence number that the place is found by: a retransmission's is the original's
abbrev pub sought : Config → RtpPacket → ℕ
sought c p = if p.ssrc == c.session.media_ssrc then p.sequence else original_in p.payload

-- how far the number lies above that of the highest place, modulo 65536
abbrev pub ahead : (highest seq : ℕ) → ℕ
ahead highest seq = (seq + 65536 - highest % 65536) % 65536

-- The whole number near the highest place, counted one cycle of 65536 up, so that one below 0 is a number too.
abbrev pub raised : (highest seq : ℕ) → ℕ
raised highest seq = if nat_lt (ahead highest seq) 16384 then highest + 65536 + ahead highest seq else highest + ahead highest seq

abbrev pub near_place : (highest seq : ℕ) → ℕ
near_place highest seq = raised highest seq - 65536

-- The checks of the place that a sequence number has. A receiver that took nothing passes all but the first.
abbrev pub place_order : Config → Option ReceiverState → RtpPacket → (seq : ℕ) → List (ℕ × Type 0)
place_order c old p seq =
    (33, IsNone old × (p.ssrc ≢ c.session.media_ssrc))
    ∷ (34, IsSomeAnd old (λ w. (16384 ≤ ahead w.highest seq) × (ahead w.highest seq ≤ 49152)))
    ∷ (39, IsSomeAnd old (λ w. (raised w.highest seq < 65536) ⊎ (2 ^ 48 + 65536 ≤ raised w.highest seq)))
    ∷ (38, IsToLearn c old × (p.ssrc ≢ c.session.media_ssrc) × IsSomeAnd old (λ w. IsSomeAnd (w.missing (near_place w.highest seq)) (λ m. 0 < m.asks) → ⊥))
    ∷ (35, IsSomeAnd old (λ w. near_place w.highest seq < w.cursor))
    ∷ (36, IsSomeAnd old (λ w. IsSome (w.held (near_place w.highest seq))))
    ∷ []

abbrev pub packet_order : Config → Option ReceiverState → RtpPacket → List (ℕ × Type 0)
packet_order c old p =
    (31, (p.ssrc ≢ c.session.media_ssrc) × IsNoRepairSource c old p.ssrc)
    ∷ (32, HasOtherType c p)
    ∷ (6, (p.ssrc ≢ c.session.media_ssrc) × (length p.payload < 2))
    ∷ (37, CarriesTooMuch c p)
    ∷ place_order c old p (sought c p)

-- all checks of a datagram: of its octets (1 to 5), and then of the packet in them
unfoldable pub hearing_order : Config → Option ReceiverState → List ℕ → List (ℕ × Type 0)
hearing_order c old octets = rtp_order octets ++ packet_order c old (packet_in octets)

-- The checks of a configuration: the table of limits in docs/PROTOCOL.md, where a limit of a type's own is none.
abbrev pub config_order : (retry asks : ℕ) → List (ℕ × Type 0)
config_order retry asks = (53, (retry ≡ 0) ⊎ (asks ≡ 0)) ∷ []

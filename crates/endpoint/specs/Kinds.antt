-- What a peer's stack sends that answers no ask, told as what it is: padding in the stream of the retransmissions (RFC 3550,
-- section 5.1, and RFC 4588), and retransmissions of places that were not asked for. Browsers probe for bandwidth with both.
use Rattle.std.specs.Prelude.{◌≡◌, ℕ, ◌^◌, ◌<◌, false, List, Option, Some, None, Result, Ok, Err}
use Rattle.places.specs.Place.{IsNear}
use Rattle.places.specs.declared.nearness.PlaceFault.TheVariants.{Far}
use Rattle.rtpwire.specs.declared.fault.RtpFault.TheVariants.{NoOsn}
use Rattle.rtpwire.specs.Retransmission.{Repair, IsRepair}
use Rattle.rtpwire.specs.Rtp.{RtpPacket, RtpSpells}
use Rattle.rtpwire.specs.Session.{Streams}
use Rattle.stores.specs.declared.slot.PutFault.TheVariants.{Late, Duplicate}
use Rattle.receiver.specs.declared.fault.ReceiveFault.{ReceiveFault}
use Rattle.receiver.specs.declared.fault.ReceiveFault.TheVariants as refused
use Rattle.endpoint.specs.declared.heard.Heard.{Heard}
use Rattle.endpoint.specs.declared.kind.Kind.{Kind}
use Rattle.endpoint.specs.declared.kind.Kind.TheVariants.{Padding, Unasked, Usual}
use Rattle.endpoint.specs.declared.kind_counts.KindCounts.{KindCounts}
use Rattle.endpoint.specs.Asked.{remembers}
use Rattle.endpoint.specs.Counts.{more}
use Rattle.endpoint.specs.Padding.{IsStripped}

-- the octets are a packet that is all padding
abbrev pub IsAllPadding : List ℕ → Type 0
IsAllPadding octets = (plain : List ℕ) × IsStripped octets plain

-- By its payload type the packet is a retransmission, and near the highest place the number of its original has the place q.
pub record IsRepairIn (s : Streams) (highest : ℕ) (packet : RtpPacket) (q : ℕ) : Type 0 where
  pub typed : packet.payload_type ≡ s.repair_type
  pub repair : Repair
  pub is : IsRepair repair packet
  pub near : IsNear highest repair.original q
  pub place : q < 2 ^ 48

-- the octets are such a packet
pub record IsRepairOf (s : Streams) (highest : ℕ) (octets : List ℕ) (q : ℕ) : Type 0 where
  pub packet : RtpPacket
  pub spelled : RtpSpells packet octets
  pub original : IsRepairIn s highest packet q

-- it is one of a place that is not remembered
pub record IsForeign (cells : List (Option ℕ)) (s : Streams) (highest : ℕ) (octets : List ℕ) : Type 0 where
  pub place : ℕ
  pub repairs : IsRepairOf s highest octets place
  pub forgotten : remembers cells place ≡ false

abbrev pub IsUnasked : (cells : List (Option ℕ)) → Streams → (highest : Option ℕ) → (octets : List ℕ) → Type 0
IsUnasked cells s None octets = ⊥
IsUnasked cells s (Some highest) octets = IsForeign cells s highest octets

-- of a retransmission that has no number of an original: it is all padding, or it is not
abbrev pub IsKindOfShort : (octets : List ℕ) → Kind → Type 0
IsKindOfShort octets Padding = IsAllPadding octets
IsKindOfShort octets Unasked = ⊥
IsKindOfShort octets Usual = IsAllPadding octets → ⊥

-- of what has a place and is refused there: it is a retransmission that was not asked for, or it is not
abbrev pub IsKindOfRefused : (cells : List (Option ℕ)) → Streams → (highest : Option ℕ) → (octets : List ℕ) → Kind → Type 0
IsKindOfRefused cells s highest octets Padding = ⊥
IsKindOfRefused cells s highest octets Unasked = IsUnasked cells s highest octets
IsKindOfRefused cells s highest octets Usual = IsUnasked cells s highest octets → ⊥

-- The kind of a datagram, by the places that are remembered, the highest place before it, and what the endpoint answered. What is
-- taken is usual, and so is what is refused but by 6, 35, 36 and 38.
abbrev pub IsKind : (cells : List (Option ℕ)) → Streams → (highest : Option ℕ) → (octets : List ℕ) → Result Heard ReceiveFault → Kind → Type 0
IsKind cells s highest octets (Err (refused.Rtp NoOsn)) kind = IsKindOfShort octets kind
IsKind cells s highest octets (Err (refused.Put fault)) kind = IsKindOfRefused cells s highest octets kind
IsKind cells s highest octets (Err refused.Unasked) kind = IsKindOfRefused cells s highest octets kind
IsKind cells s highest octets answer kind = kind ≡ Usual

-- What is counted of it. What is usual is counted where an endpoint has it, but for what is taken, or too far.
abbrev pub count_usual : Result Heard ReceiveFault → KindCounts → KindCounts
count_usual (Ok heard) c = c
count_usual (Err (refused.Put Late)) c = record c { late = more c.late 1 }
count_usual (Err (refused.Put Duplicate)) c = record c { duplicate = more c.duplicate 1 }
count_usual (Err (refused.Place Far)) c = c
count_usual (Err fault) c = record c { refused = more c.refused 1 }

abbrev pub count_kind : Kind → Result Heard ReceiveFault → KindCounts → KindCounts
count_kind Padding answer c = record c { padding = more c.padding 1 }
count_kind Unasked answer c = record c { unasked = more c.unasked 1 }
count_kind Usual answer c = count_usual answer c

-- nothing was counted
abbrev pub no_kinds : KindCounts
no_kinds = record { padding = 0; unasked = 0; late = 0; duplicate = 0; refused = 0 }

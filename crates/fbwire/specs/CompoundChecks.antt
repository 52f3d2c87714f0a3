-- Which octets are no compound datagram with a generic NACK, and why: the first packet with a fault
-- decides, and after packets without a fault it is that no one is a NACK.
use Rattle.std.specs.Prelude.{◌≡◌, ◌⊎◌, ℕ, Bool, ◌<◌, ◌==◌, ◌&&◌, not, nat_lt, List, [], length, Option, Some, None, if◌then◌else◌, ◌++◌}
use Rattle.std.specs.List.{concat, list_any}
use Rattle.fbwire.specs.declared.fault.FeedbackFault.{FeedbackFault}
use Rattle.fbwire.specs.declared.fault.FeedbackFault.TheVariants.{Short, Version, Padded, NotRtpfb, NotNack, Length, Empty}
use Rattle.fbwire.specs.Header.{version_of, is_padded, packet_type, packet_length, is_nack}
use Rattle.fbwire.specs.Nack.{Nack}
use Rattle.fbwire.specs.Compound.{SpellInOrder}

-- The first check that the packet at the front of the octets fails.
abbrev pub packet_fault : List ℕ → Option FeedbackFault
packet_fault octets =
    if nat_lt (length octets) 4
    then Some Short
    else (if not (version_of octets == 2)
    then Some Version
    else (if is_nack octets && is_padded octets
    then Some Padded
    else (if nat_lt (length octets) (packet_length octets)
    then Some Length
    else (if is_nack octets && nat_lt (packet_length octets) 12
    then Some Short
    else (if is_nack octets && (packet_length octets == 12) then Some Empty else None)))))

-- After packets without a fault, the one at the front of the rest has this fault. The rest is empty only
-- where the datagram is.
pub record FailsAt (octets : List ℕ) (fault : FeedbackFault) : Type 0 where
  pub nacks : List Nack
  pub packets : List (List ℕ)
  pub rest : List ℕ
  pub walked : octets ≡ concat packets ++ rest
  pub in_order : SpellInOrder nacks packets
  pub left : rest ≡ [] → octets ≡ []
  pub fails : packet_fault rest ≡ Some fault

-- whether a packet is transport layer feedback of any kind
abbrev pub is_feedback : List ℕ → Bool
is_feedback packet = packet_type packet == 205

-- Packets without a fault, and none is a NACK: no packet is feedback, or the feedback is of other kinds.
pub record LacksNack (octets : List ℕ) (fault : FeedbackFault) : Type 0 where
  pub packets : List (List ℕ)
  pub walked : octets ≡ concat packets
  pub some : 0 < length packets
  pub others : SpellInOrder [] packets
  pub lacks : fault ≡ (if list_any is_feedback packets then NotNack else NotRtpfb)

-- the fault for which the octets are refused
abbrev pub IsRefused : List ℕ → FeedbackFault → Type 0
IsRefused octets fault = FailsAt octets fault ⊎ LacksNack octets fault

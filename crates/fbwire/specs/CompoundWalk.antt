-- Octets that can be walked packet by packet.
use Rattle.std.specs.Prelude.{◌≡◌, ℕ, List, None, take, drop}
use Rattle.std.specs.List.{concat}
use Rattle.fbwire.specs.Nack.{Nack}
use Rattle.fbwire.specs.Header.{packet_length}
use Rattle.fbwire.specs.Compound.{SpellInOrder}
use Rattle.fbwire.specs.CompoundChecks.{packet_fault}

-- they are packets without a fault, NACKs or others
pub record CanWalk (octets : List ℕ) : Type 0 where
  pub nacks : List Nack
  pub packets : List (List ℕ)
  pub joined : octets ≡ concat packets
  pub in_order : SpellInOrder nacks packets

-- One step of the walk: the packet at the front passes each check, and is cut off by its length.
pub record CutsPacket (octets packet rest : List ℕ) : Type 0 where
  pub passes : packet_fault octets ≡ None
  pub packet_is : packet ≡ take (packet_length octets) octets
  pub rest_is : rest ≡ drop (packet_length octets) octets

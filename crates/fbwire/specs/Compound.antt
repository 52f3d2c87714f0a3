-- Compound datagrams (RFC 3550, section 6.1): packets one after another, of which only the generic NACKs
-- matter. (RFC 5506 allows a datagram to have no report first.)
use Rattle.std.specs.Prelude.{◌≡◌, ◌⊎◌, ℕ, ◌<◌, List, [], ◌∷◌, length, map, filter, All}
use Rattle.std.specs.List.{concat}
use Rattle.fbwire.specs.Header.{version_of, packet_length, is_nack}
use Rattle.fbwire.specs.Nack.{Nack, IsNack, Names, nack_octets}

-- The octets are one whole packet: the four octets of a header of version 2, and as many words of 32 bits
-- as its length field says. Its P and its contents may be anything.
pub record IsWhole (octets : List ℕ) : Type 0 where
  pub version : version_of octets ≡ 2
  pub whole : length octets ≡ packet_length octets

-- The packets are whole, and those of them that are generic NACKs are the spellings of these, in order.
pub record SpellInOrder (nacks : List Nack) (packets : List (List ℕ)) : Type 0 where
  pub whole : All IsWhole packets
  pub each : All IsNack nacks
  pub spelled : filter is_nack packets ≡ map nack_octets nacks

-- The octets are packets, of which the NACKs are these, and there is one or more.
pub record CompoundSpells (nacks : List Nack) (octets : List ℕ) : Type 0 where
  pub packets : List (List ℕ)
  pub joined : octets ≡ concat packets
  pub in_order : SpellInOrder nacks packets
  pub some : 0 < length nacks

-- the numbers that NACKs name, as a set: one of them names the number
abbrev pub NacksName : List Nack → ℕ → Type 0
NacksName [] n = ⊥
NacksName (nack ∷ nacks) n = Names nack.pairs n ⊎ NacksName nacks n

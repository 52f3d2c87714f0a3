-- A datagram that leaves, by its side and address, and its octets.
use Rattle.std.specs.Prelude.{◌≡◌, ℕ, List, take}
use Rattle.std.specs.declared.net.socket_addr.SocketAddr.{SocketAddr}
use Rattle.relays.specs.declared.outside.Side.{Side}
use Rattle.relays.specs.declared.relay.Departure.{Departure}

-- it leaves by this side for this address
pub record GoesTo (d : Departure) (side : Side) (to : SocketAddr) : Type 0 where
  pub side_is : d.side ≡ side
  pub to_is : d.to ≡ to

-- its octets: the front of what was written
abbrev pub octets_of : Departure → (out : List ℕ) → List ℕ
octets_of d out = take d.len out

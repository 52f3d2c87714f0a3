-- Who may send to a relay. (The rule is this project's own.)
use Rattle.std.specs.Prelude.{ℕ, ◌+◌, ◌==◌, ◌&&◌, ◌||◌, Bool, true, List, length, nat_le, Option, Some, None}
use Rattle.std.specs.List.{list_any}
use Rattle.std.specs.Net.Addr.{ipv4_bits, ipv6_bits}
use Rattle.std.specs.Net.Socket.{socket_ip, socket_port}
use Rattle.std.specs.declared.net.ip_addr.IpAddr.{IpAddr}
use Rattle.std.specs.declared.net.ip_addr.IpAddr.TheVariants as Ip
use Rattle.std.specs.declared.net.socket_addr.SocketAddr.{SocketAddr}
use Rattle.relays.specs.declared.peers.Peer.{Peer}

-- the number of an address: of an IPv4 one that of the IPv6 address ::ffff:a.b.c.d (RFC 4291, section 2.5.5.2)
abbrev pub number_of : IpAddr → ℕ
number_of (Ip.V4 ip) = 0xffff00000000 + ipv4_bits ip
number_of (Ip.V6 ip) = ipv6_bits ip

abbrev pub is_of_port : (wanted : Option ℕ) → (port : ℕ) → Bool
is_of_port None port = true
is_of_port (Some wanted) port = wanted == port

-- the peer may send from this address
abbrev pub is_peer : (from : SocketAddr) → Peer → Bool
is_peer from p = nat_le p.least (number_of (socket_ip from)) && (nat_le (number_of (socket_ip from)) p.most && is_of_port p.port (socket_port from))

-- one of them may; where there are none, anybody may
abbrev pub are_admitted : List Peer → (from : SocketAddr) → Bool
are_admitted peers from = (length peers == 0) || list_any (is_peer from) peers

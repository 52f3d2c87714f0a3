use Rattle.std.proofs.Common.{◌≡◌, take}
use Rattle.std.specs.List.{list_any}
use Rattle.relays.specs.Peers.{is_peer}
use Rattle.relays.proofs.peers.is_any.Given as goal

abbrev pub invariant-loop-peer : goal.invariant-loop-peer
invariant-loop-peer l = l.any ≡ list_any (is_peer l.from) (take l.peer-index l.peers)

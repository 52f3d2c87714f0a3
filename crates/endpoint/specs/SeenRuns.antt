-- What an endpoint remembers of what was taken, by its answers. Lists have the newest first.
use Rattle.std.specs.Prelude.{List, [], ◌∷◌, Option}
use Rattle.endpoint.specs.declared.seen_packets.SeenPacket.{SeenPacket}
use Rattle.endpoint.specs.Events.{Event, heard}
use Rattle.endpoint.specs.Seen.{none_seen, seen_after}

abbrev pub seen_of : List Event → List (Option SeenPacket)
seen_of [] = none_seen 8192
seen_of (heard octets now answer ∷ before) = seen_after answer octets (seen_of before)
seen_of (event ∷ before) = seen_of before

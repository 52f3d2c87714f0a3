-- What a label tells of the datagram under it.
use Rattle.std.specs.Prelude.{ℕ, Option, Some, None}
use Rattle.world.specs.declared.event.End.{End}
use Rattle.world.specs.declared.event.End.TheVariants.{Sender, Receiver}
use Rattle.world.specs.declared.event.Label.{Label}
use Rattle.world.specs.declared.event.Label.TheVariants.{Media, Repair, Feedback}

-- the end that the datagram is for
abbrev pub end_of : Label → End
end_of (Media place) = Receiver
end_of (Repair place) = Receiver
end_of (Feedback pairs) = Sender

-- the sender's place of the packet, if it is a packet's
abbrev pub place_of : Label → Option ℕ
place_of (Media place) = Some place
place_of (Repair place) = Some place
place_of (Feedback pairs) = None

-- Right playing, read off the log, the newest entry first.
use Rattle.std.specs.Prelude.{◌+◌, List, [], ◌∷◌}
use Rattle.receiver.specs.declared.answer.Played.TheVariants.{Packet}
use Rattle.world.specs.declared.event.Entry.{Entry}
use Rattle.world.specs.declared.event.Entry.TheVariants.{Played}
use Rattle.world.specs.Config.{Config}
use Rattle.world.specs.Reading.{WasSent}
use Rattle.world.specs.Reach.{shift_of, IsReached}

-- Each packet that is played has the content that was sent at its place, the whole of it: payload,
-- timestamp, marker, sources and extension. A packet of that place had reached the started receiver.
abbrev pub IsRight : Config → List Entry → Type 0
IsRight c [] = Unit {0}
IsRight c (Played now (Packet place content) ∷ before) =
    WasSent c before (place + shift_of before) content × IsReached before (place + shift_of before) × IsRight c before
IsRight c (entry ∷ before) = IsRight c before

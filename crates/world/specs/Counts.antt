-- How many entries of a log are of a kind.
use Rattle.std.specs.Prelude.{Bool, true, false, List, count_by}
use Rattle.receiver.specs.declared.answer.Played.TheVariants.{Packet, Gap}
use Rattle.world.specs.declared.event.Entry.{Entry}
use Rattle.world.specs.declared.event.Entry.TheVariants.{Sent, Repaired, Played}
use Rattle.world.specs.declared.counts.Counts.{Counts}

-- a packet was sent
abbrev pub is_sent : Entry → Bool
is_sent (Sent place index content) = true
is_sent _ = false

-- a packet was retransmitted
abbrev pub is_repaired : Entry → Bool
is_repaired (Repaired place index) = true
is_repaired _ = false

-- a packet was played
abbrev pub is_played : Entry → Bool
is_played (Played now (Packet place content)) = true
is_played _ = false

-- a place was given up
abbrev pub is_gap : Entry → Bool
is_gap (Played now (Gap place)) = true
is_gap _ = false

-- what a log comes to
abbrev pub counts_of : List Entry → Counts
counts_of log =
    record {
      sent = count_by is_sent log;
      repaired = count_by is_repaired log;
      played = count_by is_played log;
      gaps = count_by is_gap log;
    }

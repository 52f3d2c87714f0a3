-- The counts of a receiving endpoint said a second way, over all that it answered: each is the number of the answers that it
-- counts, or the sum of what they say. A refusal is told by its number.
use Rattle.std.specs.Prelude.{ℕ, ◌==◌, ◌||◌, Bool, List, Some, Ok, Err, if◌then◌else◌}
use Rattle.std.specs.List.{sum_by}
use Rattle.receiver.specs.declared.answer.Played.TheVariants.{Packet, Gap}
use Rattle.receiver.specs.Fault.{receive_number}
use Rattle.endpoint.specs.declared.heard.Heard.TheVariants.{Control, Media, Repair, HeldBack, Restarted}
use Rattle.endpoint.specs.declared.receive_counts.ReceiveCounts.{ReceiveCounts}
use Rattle.endpoint.specs.Counts.{count_in_64}
use Rattle.endpoint.specs.Events.{Event, heard, played, asked}

-- 1 for each event that it counts, and 0 for the others

abbrev pub media_in : Event → ℕ
media_in (heard octets now (Ok (Media taken))) = 1
media_in event = 0

abbrev pub repairs_in : Event → ℕ
repairs_in (heard octets now (Ok (Repair taken))) = 1
repairs_in event = 0

abbrev pub held_in : Event → ℕ
held_in (heard octets now (Ok (HeldBack held))) = 1
held_in event = 0

abbrev pub restarts_in : Event → ℕ
restarts_in (heard octets now (Ok (Restarted restart))) = 1
restarts_in event = 0

abbrev pub control_in : Event → ℕ
control_in (heard octets now (Ok Control)) = 1
control_in event = 0

abbrev pub one_if : Bool → ℕ
one_if test = if test then 1 else 0

abbrev pub refused_as : (number : ℕ) → Event → ℕ
refused_as number (heard octets now (Err fault)) = one_if (receive_number fault == number)
refused_as number event = 0

-- refused, and by none of 34 to 36
abbrev pub refused_else : Event → ℕ
refused_else (heard octets now (Err fault)) =
    if (receive_number fault == 34) || ((receive_number fault == 35) || (receive_number fault == 36)) then 0 else 1
refused_else event = 0

abbrev pub overrun_in : Event → ℕ
overrun_in (heard octets now (Ok (Media taken))) = taken.overrun
overrun_in (heard octets now (Ok (Repair taken))) = taken.overrun
overrun_in (heard octets now (Ok (Restarted restart))) = restart.taken.overrun
overrun_in event = 0

abbrev pub abandoned_in : Event → ℕ
abandoned_in (heard octets now (Ok (Restarted restart))) = restart.abandoned
abandoned_in event = 0

abbrev pub skipped_in : Event → ℕ
skipped_in (heard octets now (Ok (Restarted restart))) = restart.skipped
skipped_in event = 0

abbrev pub played_in : Event → ℕ
played_in (played now (Packet place content)) = 1
played_in event = 0

abbrev pub gaps_in : Event → ℕ
gaps_in (played now (Gap place)) = 1
gaps_in event = 0

abbrev pub asks_in : Event → ℕ
asks_in (asked now most (Some datagram) places) = 1
asks_in event = 0

abbrev pub places_in : Event → ℕ
places_in (asked now most (Some datagram) places) = places
places_in event = 0

abbrev pub tally : List Event → ReceiveCounts
tally events =
    record {
      media = count_in_64 (sum_by media_in events);
      retransmissions = count_in_64 (sum_by repairs_in events);
      held_back = count_in_64 (sum_by held_in events);
      restarts = count_in_64 (sum_by restarts_in events);
      control = count_in_64 (sum_by control_in events);
      duplicate = count_in_64 (sum_by (refused_as 36) events);
      late = count_in_64 (sum_by (refused_as 35) events);
      far = count_in_64 (sum_by (refused_as 34) events);
      refused = count_in_64 (sum_by refused_else events);
      overrun = count_in_64 (sum_by overrun_in events);
      abandoned = count_in_64 (sum_by abandoned_in events);
      skipped = count_in_64 (sum_by skipped_in events);
      played = count_in_64 (sum_by played_in events);
      gaps = count_in_64 (sum_by gaps_in events);
      asks = count_in_64 (sum_by asks_in events);
      places_asked = count_in_64 (sum_by places_in events);
    }

-- What a log comes to.
use Rattle.std.specs.Prelude.{ℕ, List, count_by}
use Rattle.world.specs.declared.event.Entry.{Entry}
pub use Rattle.world.specs.Counts.{is_sent, is_repaired, is_played, is_gap}
use Rattle.runs.specs.declared.tally.Tally.{Tally}

-- what a log comes to, where so many packets were dropped
abbrev pub tally_of : (dropped : ℕ) → List Entry → Tally
tally_of dropped log =
    record {
      sent = count_by is_sent log;
      dropped = dropped;
      repaired = count_by is_repaired log;
      played = count_by is_played log;
      gaps = count_by is_gap log;
    }

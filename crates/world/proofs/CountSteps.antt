-- What a log comes to after one entry more.
use Rattle.std.proofs.Common.{◌≡◌, ◌≤◌, List, length}
use Rattle.std.proofs.lemmas.List.Sums.{count_by-le-length}
use Rattle.world.specs.declared.event.Entry.{Entry}
use Rattle.world.specs.declared.counts.Counts.{Counts}
use Rattle.world.specs.Counts.{is_sent, is_repaired, is_played, is_gap, counts_of}

-- no count is above the log's length
pub record IsFew (counts : Counts) (log : List Entry) : Type 0 where
  pub sent : counts.sent ≤ length log
  pub repaired : counts.repaired ≤ length log
  pub played : counts.played ≤ length log
  pub gaps : counts.gaps ≤ length log

pub few : (counts : Counts) (log : List Entry) → counts ≡ counts_of log → IsFew counts log
few counts log is =
    let a = count_by-le-length is_sent log in
    let b = count_by-le-length is_repaired log in
    let c = count_by-le-length is_played log in
    let d = count_by-le-length is_gap log in
    rw is (record { sent = a; repaired = b; played = c; gaps = d })

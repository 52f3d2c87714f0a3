use Rattle.std.proofs.Common.{◌≡◌, ◌≤◌, ◌<◌, ℕ, true, Some}
use Rattle.places.specs.Place.{number}
use Rattle.stores.specs.declared.entry.HistoryEntry.{HistoryEntry}
use Rattle.stores.specs.Past.{entry_at}
use Rattle.world.proofs.marks.is_marked_up_to.Given as goal

abbrev pub invariant-loop-seq : goal.invariant-loop-seq
invariant-loop-seq g l = (q : ℕ) (entry : HistoryEntry) → number q < l.seq → entry_at (g.H.History.meaning l.history) q ≡ Some entry → entry.marked ≡ true → q ≤ l.highest

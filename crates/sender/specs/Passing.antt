-- What a sender answers when its next retransmission is passed over. (The rule is this project's own.)
use Rattle.std.specs.Prelude.{◌≡◌, ℕ, Option, Some, None}
use Rattle.stores.specs.declared.entry.HistoryEntry.{HistoryEntry}
use Rattle.sender.specs.History.{SenderState, PassesOver, IsLeastMarked, NoneMarked}

-- the place is the least marked one
pub record IsNext (old : SenderState) (place : ℕ) : Type 0 where
  pub entry : HistoryEntry
  pub least : IsLeastMarked old place entry

-- what is to be retransmitted next: the least marked place, or no place is marked
abbrev pub IsNextAny : SenderState → Option ℕ → Type 0
IsNextAny old (Some place) = IsNext old place
IsNextAny old None = NoneMarked old

-- the least marked place is passed over
pub record PassesAt (old : SenderState) (place : ℕ) (new : SenderState) : Type 0 where
  pub entry : HistoryEntry
  pub passes : PassesOver old place entry new

-- A place is passed over exactly where one is marked; else nothing changes.
abbrev pub PassesAny : SenderState → Option ℕ → SenderState → Type 0
PassesAny old (Some place) new = PassesAt old place new
PassesAny old None new = NoneMarked old × (new ≡ old)

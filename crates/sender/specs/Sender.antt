-- A sender as its callers see it, and what is true of every sender.
use Rattle.std.specs.Prelude.{◌≡◌, ℕ, ◌+◌, ◌^◌, ◌<◌, ◌≤◌, true, Some}
use Rattle.std.specs.Option.{ForSome}
use Rattle.stores.specs.declared.entry.HistoryEntry.{HistoryEntry}
use Rattle.stores.specs.Past.{Past, IsPast, next_of, entry_at}
use Rattle.sender.specs.Config.{Config}
use Rattle.sender.specs.History.{SenderState}

pub record Sending : Type 0 where
  pub config : Config
  pub next : ℕ  -- the next place, 2 ^ 48 where there is none left
  pub repair : ℕ  -- the sequence number of the next retransmission
  pub past : Past  -- its history

-- a sender that sent nothing, over this history; its first place is one cycle of 65536 above its first number
abbrev pub new_sending : Config → Past → Sending
new_sending c past =
    record {
      config = c;
      next = 65536 + c.first;
      repair = c.repair_first;
      past = past;
    }

-- the sender over places
abbrev pub history_of : (next repair : ℕ) → Past → SenderState
history_of next repair past = record { next = next; repair = repair; entries = λ q. entry_at past q }

abbrev pub state_of : Sending → SenderState
state_of s = history_of s.next s.repair s.past

-- an entry was repeated no more often than the limit, and less often where it is to be again
pub record IsBounded (repeats : ℕ) (entry : HistoryEntry) : Type 0 where
  pub limit : entry.repeats ≤ repeats
  pub below : entry.marked ≡ true → entry.repeats < repeats

-- each entry keeps the limit
abbrev pub RepeatsWithin : (repeats : ℕ) → Past → Type 0
RepeatsWithin repeats past = (q : ℕ) (entry : HistoryEntry) → entry_at past q ≡ Some entry → IsBounded repeats entry

-- What is true of every sender: the next place follows the last entry's, and each entry keeps the limit.
pub record IsSending (s : Sending) : Type 0 where
  pub ends : s.next ≤ 2 ^ 48
  pub follows : ForSome (next_of s.past) (λ next. s.next ≡ next)
  pub counted : s.config.repeats ≤ 255
  pub limit : RepeatsWithin s.config.repeats s.past

-- what no call changes: how it is configured, how many entries its history keeps, and that it is a history
pub record Stays (old new : Sending) : Type 0 where
  pub config : new.config ≡ old.config
  pub capacity : new.past.capacity ≡ old.past.capacity
  pub is_past : IsPast new.past

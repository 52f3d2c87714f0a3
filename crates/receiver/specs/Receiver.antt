-- A receiver as its callers see it.
use Rattle.std.specs.Prelude.{◌≡◌, ℕ, Option, None}
use Rattle.stores.specs.Span.{Span, IsSpan, begun_span, empty_span}
use Rattle.receiver.specs.Config.{Config, timed}
use Rattle.receiver.specs.Window.{ReceiverState, window_of}
use Rattle.receiver.specs.Asks.{AsksWithin}

pub record Receiving : Type 0 where
  pub config : Config
  pub span : Span  -- its window
  pub learnt : Option ℕ  -- the SSRC of the retransmissions, where it was learnt

-- a receiver that took nothing learnt nothing
abbrev pub IsUnlearnt : Span → (learnt : Option ℕ) → Type 0
IsUnlearnt s learnt = s.cursor ≡ None → learnt ≡ None

-- the receiver over places
abbrev pub state_of : Receiving → Option ReceiverState
state_of r = window_of r.learnt r.span

-- What is true of every receiver: no place was asked for more often than the configuration says.
pub record IsReceiving (r : Receiving) : Type 0 where
  pub unlearnt : IsUnlearnt r.span r.learnt
  pub limit : AsksWithin r.config.asks (state_of r)

-- what no call changes but one that sets the times: how it is configured, how many places its window keeps, and that it is a window
pub record Stays (old new : Receiving) : Type 0 where
  pub config : new.config ≡ old.config
  pub capacity : new.span.capacity ≡ old.span.capacity
  pub is_span : IsSpan new.span

-- the receiver that began at a place before it took any, one that took nothing over the same memory, one that has the SSRC of the
-- retransmissions to learn anew, and one with other times
abbrev pub begun : Receiving → (first : ℕ) → Receiving
begun r first = record { config = r.config; span = begun_span first r.span.capacity; learnt = None }

abbrev pub restarted : Receiving → Receiving
restarted r = record { config = r.config; span = empty_span r.span.capacity; learnt = None }

abbrev pub unlearnt : Receiving → Receiving
unlearnt r = record r { learnt = None }

abbrev pub with_times : Receiving → (patience delay retry : ℕ) → Receiving
with_times r patience delay retry = record { config = timed r.config patience delay retry; span = r.span; learnt = r.learnt }

-- The receiver over places: what it holds and what it misses, and how taking a place and playing change
-- that. Its maps are functions from places, and have no bound.
use Rattle.std.specs.Prelude.{◌≡◌, ◌≢◌, ℕ, ◌+◌, ◌-◌, ◌<◌, ◌≤◌, max, Option, Some, None, IsSome, IsSomeAnd, Result, Ok, Err, length}
use Rattle.rtpwire.specs.declared.content.Content.{Content}
use Rattle.stores.specs.declared.slot.Slot.{Slot}
use Rattle.stores.specs.declared.slot.Slot.TheVariants.{Held, Missing}
use Rattle.stores.specs.declared.slot.PutFault.TheVariants.{Late, Duplicate}
use Rattle.stores.specs.Span.{Span}
use Rattle.stores.specs.ByPlace.{slot_at}
use Rattle.receiver.specs.declared.answer.Taken.{Taken}
use Rattle.receiver.specs.declared.answer.Played.{Played}
use Rattle.receiver.specs.declared.answer.Played.TheVariants.{Packet, Gap, Wait}
use Rattle.receiver.specs.declared.fault.ReceiveFault.{ReceiveFault}
use Rattle.receiver.specs.declared.fault.ReceiveFault.TheVariants as refused

-- a place that was noticed to be missing, how often it was asked for, and when it last was
pub record Missed : Type 0 where
  pub noticed : ℕ
  pub asks : ℕ
  pub last : ℕ

-- A receiver that took a place, or began at one. One that did neither so far is no window.
pub record ReceiverState : Type 0 where
  pub cursor : ℕ  -- the next place to play
  pub highest : ℕ  -- the highest place that was taken, or the one before the first
  pub held : ℕ → Option Content
  pub missing : ℕ → Option Missed
  pub learnt : Option ℕ  -- the SSRC of the retransmissions, where it was learnt

-- what a slot holds or misses
abbrev pub held_in : Option Slot → Option Content
held_in None = None
held_in (Some (Held content)) = Some content
held_in (Some (Missing noticed asks last)) = None

abbrev pub missed_in : Option Slot → Option Missed
missed_in None = None
missed_in (Some (Held content)) = None
missed_in (Some (Missing noticed asks last)) = Some (record { noticed = noticed; asks = asks; last = last })

-- the receiver that learnt this and whose window is kept so, by its cursor
abbrev pub window_at : (learnt cursor : Option ℕ) → Span → Option ReceiverState
window_at learnt None s = None
window_at learnt (Some k) s =
    Some (record {
      cursor = k;
      highest = k + length s.slots - 1;
      held = λ q. held_in (slot_at s q);
      missing = λ q. missed_in (slot_at s q);
      learnt = learnt;
    })

abbrev pub window_of : (learnt : Option ℕ) → Span → Option ReceiverState
window_of learnt s = window_at learnt s.cursor s

abbrev pub new_missed : ℕ → Missed
new_missed now = record { noticed = now; asks = 0; last = 0 }

-- where the cursor stands after this place is taken: the window has room for so many places up to it
abbrev pub cursor_after : ℕ → ℕ → ℕ → ℕ
cursor_after room cursor place = max cursor (place + 1 - room)

-- The first place that is taken starts the window.
pub record Starts (place : ℕ) (content : Content) (new : ReceiverState) : Type 0 where
  pub cursor : new.cursor ≡ place
  pub highest : new.highest ≡ place
  pub held : new.held place ≡ Some content
  pub held_else : (k : ℕ) → k ≢ place → new.held k ≡ None
  pub missing : (k : ℕ) → new.missing k ≡ None
  pub learnt : new.learnt ≡ None

-- A receiver that begins at a place before it took any: it is the next one to play, and all places from it on are still to come.
pub record Begins (first : ℕ) (new : ReceiverState) : Type 0 where
  pub cursor : new.cursor ≡ first
  pub highest : new.highest + 1 ≡ first
  pub held : (k : ℕ) → new.held k ≡ None
  pub missing : (k : ℕ) → new.missing k ≡ None
  pub learnt : new.learnt ≡ None

-- A later place that is taken. What falls below the cursor is dropped for good; the places that lie
-- between the highest so far and this one are noticed to be missing.
pub record Takes (room : ℕ) (old : ReceiverState) (place : ℕ) (content : Content) (now : ℕ) (new : ReceiverState) : Type 0 where
  pub cursor : new.cursor ≡ cursor_after room old.cursor place
  pub highest : new.highest ≡ max old.highest place
  pub held : new.held place ≡ Some content
  pub held_else : (k : ℕ) → new.cursor ≤ k → k ≢ place → new.held k ≡ old.held k
  pub held_dropped : (k : ℕ) → k < new.cursor → new.held k ≡ None
  pub missing : new.missing place ≡ None
  pub missing_between : (k : ℕ) → new.cursor ≤ k → old.highest < k → k < place → new.missing k ≡ Some (new_missed now)
  pub missing_below : (k : ℕ) → new.cursor ≤ k → k ≢ place → k ≤ old.highest → new.missing k ≡ old.missing k
  pub missing_above : (k : ℕ) → new.cursor ≤ k → place < k → new.missing k ≡ old.missing k
  pub missing_dropped : (k : ℕ) → k < new.cursor → new.missing k ≡ None
  pub learnt : new.learnt ≡ old.learnt

-- The cursor rises by one.
pub record Passes (old new : ReceiverState) : Type 0 where
  pub cursor : new.cursor ≡ old.cursor + 1
  pub highest : new.highest ≡ old.highest
  pub held : (k : ℕ) → k ≢ old.cursor → new.held k ≡ old.held k
  pub held_dropped : new.held old.cursor ≡ None
  pub missing : (k : ℕ) → k ≢ old.cursor → new.missing k ≡ old.missing k
  pub missing_dropped : new.missing old.cursor ≡ None
  pub learnt : new.learnt ≡ old.learnt

-- What a started receiver answers to a content at its place: it takes it, or refuses it below the cursor
-- (35) or where the place is held already (36), which changes nothing.
abbrev pub AnswersPlace : (room : ℕ) → ReceiverState → (place : ℕ) → Content → (now : ℕ) → Result Taken ReceiveFault → Option ReceiverState → Type 0
AnswersPlace room old place content now (Ok taken) new =
    (taken.place ≡ place)
    × (old.cursor ≤ place)
    × (old.held place ≡ None)
    × (taken.overrun ≡ cursor_after room old.cursor place - old.cursor)
    × IsSomeAnd new (Takes room old place content now)
AnswersPlace room old place content now (Err (refused.Put Late)) new = (place < old.cursor) × (new ≡ Some old)
AnswersPlace room old place content now (Err (refused.Put Duplicate)) new =
    (old.cursor ≤ place) × IsSome (old.held place) × (new ≡ Some old)
AnswersPlace room old place content now (Err fault) new = ⊥

-- A receiver that took nothing, and did not begin, takes any place.
abbrev pub StartsAt : (place : ℕ) → Content → Result Taken ReceiveFault → Option ReceiverState → Type 0
StartsAt place content (Ok taken) new = (taken.place ≡ place) × (taken.overrun ≡ 0) × IsSomeAnd new (Starts place content)
StartsAt place content (Err fault) new = ⊥

-- the place's patience had passed: so long ago it was noticed
pub record HasPassed (patience noticed now : ℕ) : Type 0 where
  pub later : noticed ≤ now
  pub long : patience ≤ now - noticed

-- What playing answers at a started receiver.
abbrev pub Plays : (patience : ℕ) → ReceiverState → (now : ℕ) → Played → Option ReceiverState → Type 0
Plays patience old now (Packet place content) new =
    (place ≡ old.cursor) × (old.held place ≡ Some content) × IsSomeAnd new (Passes old)
Plays patience old now (Gap place) new =
    (place ≡ old.cursor)
    × (old.held place ≡ None)
    × IsSomeAnd (old.missing place) (λ m. HasPassed patience m.noticed now)
    × IsSomeAnd new (Passes old)
Plays patience old now Wait new =
    (old.held old.cursor ≡ None)
    × ((m : Missed) → old.missing old.cursor ≡ Some m → HasPassed patience m.noticed now → ⊥)
    × (new ≡ Some old)

-- A receiver that took nothing, and did not begin, only waits.
abbrev pub PlaysAny : (patience : ℕ) → Option ReceiverState → (now : ℕ) → Played → Option ReceiverState → Type 0
PlaysAny patience None now Wait new = new ≡ None
PlaysAny patience None now (Packet place content) new = ⊥
PlaysAny patience None now (Gap place) new = ⊥
PlaysAny patience (Some old) now answer new = Plays patience old now answer new

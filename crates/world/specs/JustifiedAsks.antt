-- Asks with a cause, read off the log and the labels on the wire: an entry doesn't tell what its ask names, its label does. A log is
-- newest first here.
use Rattle.std.specs.Prelude.{◌≡◌, ◌≢◌, ◌↔◌, ℕ, ◌+◌, ◌<◌, ◌≤◌, ◌&&◌, Bool, true, List, [], ◌∷◌, length, take, Option, Some, None, is_some, slice_get, if◌then◌else◌}
use Rattle.std.specs.List.Sorted.{IsStrictlyIncreasing}
use Rattle.places.specs.Among.{is_among}
use Rattle.places.specs.Place.{number}
use Rattle.fbwire.specs.declared.nack.Pair.{Pair}
use Rattle.fbwire.specs.Nack.{numbers_of}
use Rattle.fbwire.specs.Packing.{IsPacking, IsNarrow}
use Rattle.stores.specs.Asking.{longest_ask}
use Rattle.world.specs.declared.event.Label.{Label}
use Rattle.world.specs.declared.event.Label.TheVariants.{Media, Repair, Feedback}
use Rattle.world.specs.declared.event.Entry.{Entry}
use Rattle.world.specs.declared.event.Entry.TheVariants.{Asked, NoAsk}
use Rattle.world.specs.Config.{Config}
use Rattle.world.specs.Reading.{cursor_of}
use Rattle.world.specs.Reach.{shift_of, IsReached}
use Rattle.world.specs.Justified.{noticed_of}

-- the pairs that a label tells; a packet's has none
abbrev pub pairs_under : Option Label → List Pair
pairs_under None = []
pairs_under (Some (Media place)) = []
pairs_under (Some (Repair place)) = []
pairs_under (Some (Feedback pairs)) = pairs.items

-- whether the ask under the label at this index names the place's sequence number
abbrev pub is_named : List Label → (index place : ℕ) → Bool
is_named labels index place = is_among (numbers_of (pairs_under (slice_get labels index))) (number place)

-- The moments at which a place was asked for, the latest one first: those of the asks that name its number and came after it was
-- noticed. (An earlier one asked for another place, which had its number then.)
abbrev pub asked_at : List Label → List Entry → (place : ℕ) → List ℕ
asked_at labels [] place = []
asked_at labels (Asked index now ∷ before) place =
    if is_some (noticed_of before place) && is_named labels index place then now ∷ asked_at labels before place else asked_at labels before place
asked_at labels (entry ∷ before) place = asked_at labels before place

-- the place is still to be played
abbrev pub IsAhead : (cursor : Option ℕ) → (place : ℕ) → Type 0
IsAhead None place = ⊥
IsAhead (Some cursor) place = cursor ≤ place

-- It is time to ask for a place that was noticed at this moment, and asked for at those: the delay is over since it was noticed,
-- where there is one, or `retry` since the last ask.
abbrev pub IsTimeToAsk : (delay retry noticed : ℕ) → (asked : List ℕ) → (now : ℕ) → Type 0
IsTimeToAsk delay retry noticed [] now = delay ≢ 0 → noticed + delay ≤ now
IsTimeToAsk delay retry noticed (last ∷ earlier) now = last + retry ≤ now

-- A place is to be asked for: it was noticed, is still to be played, no packet of it had reached the started receiver, it was asked
-- for fewer times than the limit, and it is time.
pub record IsToAskFor (c : Config) (labels : List Label) (past : List Entry) (place now : ℕ) : Type 0 where
  pub ahead : IsAhead (cursor_of past) place
  pub not_reached : IsReached past (place + shift_of past) → ⊥
  pub fewer : length (asked_at labels past place) < c.receiver.asks
  pub noticed : (moment : ℕ) × (noticed_of past place ≡ Some moment) × IsTimeToAsk c.receiver.delay c.receiver.retry moment (asked_at labels past place) now

-- An ask is for the places that are to be asked for, of which there are some: its pairs are the packing of the first
-- `longest_ask` of them, or of all.
pub record IsAskFor (c : Config) (labels : List Label) (past : List Entry) (now : ℕ) (pairs : List Pair) : Type 0 where
  pub places : List ℕ
  pub rising : IsStrictlyIncreasing places
  pub each : (place : ℕ) → (is_among places place ≡ true) ↔ IsToAskFor c labels past place now
  pub narrow : IsNarrow (take longest_ask places)
  pub covered : ℕ
  pub some : 0 < covered
  pub packing : IsPacking (take longest_ask places) pairs covered

-- Each ask has its cause; and where there was none, no place was to be asked for.
abbrev pub IsAskedRightly : Config → List Label → List Entry → Type 0
IsAskedRightly c labels [] = Unit {0}
IsAskedRightly c labels (Asked index now ∷ before) = IsAskFor c labels before now (pairs_under (slice_get labels index)) × IsAskedRightly c labels before
IsAskedRightly c labels (NoAsk now ∷ before) = ((place : ℕ) → IsToAskFor c labels before place now → ⊥) × IsAskedRightly c labels before
IsAskedRightly c labels (entry ∷ before) = IsAskedRightly c labels before

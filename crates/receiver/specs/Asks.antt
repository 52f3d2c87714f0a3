-- What a receiver asks for: which missing places are due, how they are packed into a generic NACK (RFC 4585,
-- section 6.2.1), and what an ask leaves. When to ask is a choice of this project.
use Rattle.std.specs.Prelude.{◌≡◌, ◌≢◌, ℕ, ◌+◌, ◌*◌, ◌<◌, ◌≤◌, ◌==◌, ◌||◌, ◌&&◌, Bool, true, false, List, [], length, take, min, Option, Some, None, Result, Ok, Err, IsSomeAnd, IfSome, if◌then◌else◌, nat_lt, nat_le}
use Rattle.std.specs.Option.{option_map}
use Rattle.arrayvec.specs.ArrayVec.{ArrayVec}
use Rattle.places.specs.Among.{is_among}
use Rattle.rtpwire.specs.declared.fault.TooShort.{TooShort}
use Rattle.rtpwire.specs.Buffer.{WritesFront}
use Rattle.fbwire.specs.declared.nack.Pair.{Pair}
use Rattle.fbwire.specs.Nack.{NackSpells}
use Rattle.fbwire.specs.Packing.{IsPacking, IsNarrow}
use Rattle.stores.specs.PlaceLists.{Lists}
use Rattle.stores.specs.Asking.{longest_ask}
use Rattle.receiver.specs.Config.{Config}
use Rattle.receiver.specs.Window.{Missed, ReceiverState}

-- Whether a place is due to be asked for: it is missing, it was asked for fewer times than the limit, and where it never was,
-- the delay is over since it was noticed, else `retry` is since the last ask. No delay is over at every moment. (The stores
-- say a span since a moment as a difference, this as a sum: a mistake in one of the two shows.)
abbrev pub is_due : (now delay retry limit : ℕ) → Option Missed → Bool
is_due now delay retry limit (Some m) =
    nat_lt m.asks limit && (if m.asks == 0 then delay == 0 || nat_le (m.noticed + delay) now else nat_le (m.last + retry) now)
is_due now delay retry limit None = false

abbrev pub is_missed : Option Missed → Bool
is_missed (Some m) = true
is_missed None = false

-- a missing place after one more ask at the moment `now`
abbrev pub asked_once : (now : ℕ) → Missed → Missed
asked_once now m = record { noticed = m.noticed; asks = m.asks + 1; last = now }

-- Each of the covered places was asked for once more, at the moment `now`. All else is as it was.
pub record Asks (old : ReceiverState) (covered : List ℕ) (now : ℕ) (new : ReceiverState) : Type 0 where
  pub cursor : new.cursor ≡ old.cursor
  pub highest : new.highest ≡ old.highest
  pub held : (k : ℕ) → new.held k ≡ old.held k
  pub missing : (k : ℕ) → new.missing k ≡ (if is_among covered k then option_map (asked_once now) (old.missing k) else old.missing k)
  pub learnt : new.learnt ≡ old.learnt

-- An ask for these places, at least one, by pairs: they are packed into as few pairs as name them, 64 at most. A place that the
-- pairs do not cover stays due.
pub record AsksBy (old : ReceiverState) (places : List ℕ) (now : ℕ) (pairs : List Pair) (new : Option ReceiverState) : Type 0 where
  pub count : ℕ
  pub covers : 0 < count
  -- the places lie within one window, so no two of them have one sequence number
  pub narrow : IsNarrow places
  pub packing : IsPacking places pairs count
  pub asks : IsSomeAnd new (Asks old (take count places) now)

-- An ask as a datagram: the NACK of the pairs, from the receiver to the media source.
pub record AsksFor (c : Config) (old : ReceiverState) (places : List ℕ) (now : ℕ) (datagram : ArrayVec ℕ) (new : Option ReceiverState) : Type 0 where
  pub pairs : List Pair
  pub asked : AsksBy old places now pairs new
  pub spells : NackSpells (record { reporter = c.session.receiver_ssrc; media = c.session.media_ssrc; pairs = pairs }) datagram.items

-- where there is no place there is no ask, and nothing changes
abbrev pub AnswersAsk : Config → ReceiverState → (places : List ℕ) → (now : ℕ) → Option (ArrayVec ℕ) → Option ReceiverState → Type 0
AnswersAsk c old places now (Some datagram) new = (places ≢ []) × AsksFor c old places now datagram new
AnswersAsk c old places now None new = (places ≡ []) × (new ≡ Some old)

-- how many places one ask looks at, where it is for at most so many
abbrev pub looked_at : (most : ℕ) → ℕ
looked_at most = min most longest_ask

-- An ask for at most so many places, at a started receiver: the first so many of the due ones are asked for as if no other were due.
pub record AsksDue (c : Config) (old : ReceiverState) (now most : ℕ) (answer : Option (ArrayVec ℕ)) (new : Option ReceiverState) : Type 0 where
  pub due : List ℕ
  pub each : Lists due (λ k. is_due now c.delay c.retry c.asks (old.missing k))
  pub answers : AnswersAsk c old (take (looked_at most) due) now answer new

-- A receiver that took nothing asks for nothing.
abbrev pub AsksMost : Config → Option ReceiverState → (now most : ℕ) → Option (ArrayVec ℕ) → Option ReceiverState → Type 0
AsksMost c None now most answer new = (answer ≡ None) × (new ≡ None)
AsksMost c (Some old) now most answer new = AsksDue c old now most answer new

-- An ask is one for at most the longest.
abbrev pub AsksAny : Config → Option ReceiverState → (now : ℕ) → Option (ArrayVec ℕ) → Option ReceiverState → Type 0
AsksAny c old now answer new = AsksMost c old now longest_ask answer new

-- the answer of an ask to the front of a slice, with the octets there as its datagram
abbrev pub asked_into : List ℕ → Option ℕ → Option (ArrayVec ℕ)
asked_into out (Some len) = Some (record { items = take len out })
asked_into out None = None

-- of a slice only the datagram's octets are written
abbrev pub WritesAsk : List ℕ → Option ℕ → List ℕ → Type 0
WritesAsk out (Some len) out' = WritesFront len out out'
WritesAsk out None out' = out' ≡ out

-- An ask for at most so many places would be due whose NACK has so many octets.
pub record NeedsRoom (c : Config) (old : ReceiverState) (now most needed : ℕ) : Type 0 where
  pub due : List ℕ
  pub each : Lists due (λ k. is_due now c.delay c.retry c.asks (old.missing k))
  pub some : take (looked_at most) due ≢ []
  pub pairs : List Pair
  pub count : ℕ
  pub packing : IsPacking (take (looked_at most) due) pairs count
  pub octets : needed ≡ 12 + 4 * length pairs

abbrev pub AnyNeedsRoom : Config → Option ReceiverState → (now most needed : ℕ) → Type 0
AnyNeedsRoom c None now most needed = ⊥
AnyNeedsRoom c (Some old) now most needed = NeedsRoom c old now most needed

-- What is answered where the octets go to the front of a slice: an ask as any other, or none, and where the slice has no
-- room for it, how many octets it has; then nothing changes.
abbrev pub AsksMostInto : Config → Option ReceiverState → (now most : ℕ) → List ℕ → Result (Option ℕ) TooShort → List ℕ → Option ReceiverState → Type 0
AsksMostInto c old now most out (Ok answer) out' new = AsksMost c old now most (asked_into out' answer) new × WritesAsk out answer out'
AsksMostInto c old now most out (Err short) out' new = AnyNeedsRoom c old now most short.needed × (length out < short.needed) × (out' ≡ out) × (new ≡ old)

abbrev pub AsksInto : Config → Option ReceiverState → (now : ℕ) → List ℕ → Result (Option ℕ) TooShort → List ℕ → Option ReceiverState → Type 0
AsksInto c old now out answer out' new = AsksMostInto c old now longest_ask out answer out' new

-- how many places are missing
pub record CountsMissed (old : ReceiverState) (count : ℕ) : Type 0 where
  pub places : List ℕ
  pub each : Lists places (λ k. is_missed (old.missing k))
  pub counted : count ≡ length places

abbrev pub CountsMissing : Option ReceiverState → (count : ℕ) → Type 0
CountsMissing None count = count ≡ 0
CountsMissing (Some old) count = CountsMissed old count

-- no place was asked for more often than this limit
abbrev pub AsksWithin : (limit : ℕ) → Option ReceiverState → Type 0
AsksWithin limit state = IfSome state (λ w. (k : ℕ) → IfSome (w.missing k) (λ m. m.asks ≤ limit))

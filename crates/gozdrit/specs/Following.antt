-- What a receiver of C's does with a datagram, an ask and a play: what its endpoint does; and its path is measured by that, where the
-- times of asks follow it.
use Rattle.std.specs.Prelude.{◌≡◌, ℕ, ◌<◌, ◌≤◌, ◌==◌, ◌||◌, ◌&&◌, Bool, true, false, not, min, nat_lt, List, ◌++◌, length, take, drop, Option, Some, None, Result, Ok, Err, OnErr, IsOk, if◌then◌else◌}
use Rattle.arrayvec.specs.ArrayVec.{ArrayVec}
use Rattle.rtpwire.specs.Buffer.{in_front}
use Rattle.rtpwire.specs.declared.fault.TooShort.{TooShort}
use Rattle.receiver.specs.declared.answer.Played.{Played}
use Rattle.receiver.specs.declared.fault.ReceiveFault.{ReceiveFault}
use Rattle.receiver.specs.Asks.{AsksMostInto}
use Rattle.receiver.specs.Peeking.{play_of, receiver_passed}
use Rattle.receiver.specs.Receiver.{Receiving, Stays, state_of}
use Rattle.receiver.specs.Window.{PlaysAny}
use Rattle.stores.specs.Span.{highest_of}
use Rattle.endpoint.specs.declared.heard.Heard.{Heard}
use Rattle.endpoint.specs.declared.kind.Kind.{Kind}
use Rattle.endpoint.specs.declared.passed.Passed.{Passed}
use Rattle.endpoint.specs.declared.passed.Passed.TheVariants as passed
use Rattle.endpoint.specs.declared.path_meter.PathMeter.{PathMeter}
use Rattle.endpoint.specs.declared.standing.Standing.{Standing}
use Rattle.endpoint.specs.Asked.{RemembersAskInto, kept_after}
use Rattle.endpoint.specs.Kinds.{IsKind, count_kind}
use Rattle.endpoint.specs.Measuring.{IsStanding, left_at, meter_asked, meter_given_up, meter_heard, meter_passed, times_set}
use Rattle.endpoint.specs.Receiving.{ends_of}
use Rattle.endpoint.specs.Rivals.{HearsWeighed}
use Rattle.endpoint.specs.ReceiveCounts.{count_heard, count_played, passed_by, CountsAskInto}
use Rattle.endpoint.specs.Seen.{seen_after}
use Rattle.timing.specs.Path.{times_over}
use Rattle.timing.specs.declared.feedback_budget.FeedbackBudget.{FeedbackBudget}
use Rattle.timing.specs.NackRoom.{budget_with, budget_without, fewer_in, room_in}
use Rattle.gozdrit.specs.Budget.{is_earned}
use Rattle.gozdrit.specs.Ends.{Receiver}

-- its receiver that has what is believed
abbrev pub core_of : Receiver → Receiving
core_of r = r.endpoint.endpoint.core

-- with these receivers, and all else as it was
abbrev pub with_ends : Receiver → (core spare : Receiving) → Receiver
with_ends r core spare = record r { endpoint = record r.endpoint { endpoint = record r.endpoint.endpoint { core = core; spare = spare } } }

-- what the endpoint's own call promises of a datagram
pub record HearsOwn (before : Receiver) (octets : List ℕ) (now : ℕ) (answer : Result Heard ReceiveFault) (after : Receiver) : Type 0 where
  pub kind : Kind
  pub hears : HearsWeighed before.endpoint.endpoint.probation before.endpoint.endpoint.seen (ends_of (core_of before) before.endpoint.endpoint.spare before.endpoint.endpoint.run)
      before.endpoint.doubted octets now answer (ends_of (core_of after) after.endpoint.endpoint.spare after.endpoint.endpoint.run) after.endpoint.doubted
  pub probation : after.endpoint.endpoint.probation ≡ before.endpoint.endpoint.probation
  pub counts : after.endpoint.endpoint.counts ≡ count_heard answer before.endpoint.endpoint.counts
  pub seen : after.endpoint.endpoint.seen ≡ seen_after answer octets before.endpoint.endpoint.seen
  pub kind_is : IsKind before.endpoint.asked (core_of before).config.session (highest_of (core_of before).span) octets answer kind
  pub asked : after.endpoint.asked ≡ kept_after answer before.endpoint.asked
  pub kinds : after.endpoint.kinds ≡ count_kind kind answer before.endpoint.kinds

-- where something was measured since they did, the times follow
abbrev pub timed_by : PathMeter → (now : ℕ) → Receiver → Receiver
timed_by m now r =
    let times = times_over m.path (core_of r).config.patience now in
    record (with_ends r (times_set times (core_of r).config.patience (core_of r)) (times_set times (core_of r).config.patience r.endpoint.endpoint.spare)) { meter = record m { is_new = false } }

abbrev pub timed_where : (is_new : Bool) → PathMeter → (now : ℕ) → Receiver → Receiver
timed_where true m now r = timed_by m now r
timed_where false m now r = record r { meter = m }

-- What was heard is measured, by where the receiver stood before.
abbrev pub Measures : (follows : Bool) → (before : Receiver) → (octets : List ℕ) → (now : ℕ) → Result Heard ReceiveFault → (mid after : Receiver) → Type 0
Measures false before octets now answer mid after = after ≡ mid
Measures true before octets now answer mid after =
    (standing : Standing) × IsStanding (core_of before) octets standing
    × (after ≡ timed_where (meter_heard answer standing now before.meter).is_new (meter_heard answer standing now before.meter) now mid)

-- a datagram
pub record HearsAs (before : Receiver) (octets : List ℕ) (now : ℕ) (answer : Result Heard ReceiveFault) (after : Receiver) : Type 0 where
  pub mid : Receiver  -- what the endpoint's own call leaves
  pub own : HearsOwn before octets now answer mid
  pub meter : mid.meter ≡ before.meter
  pub follows : mid.follows ≡ before.follows
  pub by_sent : mid.by_sent ≡ before.by_sent
  pub copies : mid.copies ≡ before.copies
  pub again : mid.again ≡ before.again
  pub budget : mid.budget ≡ budget_with (length octets) before.budget
  pub measures : Measures before.follows before octets now answer mid after

-- a place that is played is measured no longer, and one that is given up may be a measurement
abbrev pub meter_after : Passed → (now : ℕ) → PathMeter → PathMeter
meter_after passed.Nothing now m = m
meter_after (passed.Packet place) now m = meter_passed place m
meter_after (passed.Gap place) now m = meter_given_up place now m

-- How long the next place to play is waited for since it was noticed to be missing: the patience; and where it is given up by when its
-- packet was sent, less of it, as far as a silence tells.
abbrev pub patience_of : Receiver → ℕ
patience_of r = if r.by_sent then left_at r.meter.path.arrivals (core_of r).config.patience (core_of r).span.cursor else (core_of r).config.patience

-- what a play would give
abbrev pub next_play : Receiver → (now : ℕ) → Played
next_play r now = play_of (patience_of r) now (core_of r).span

-- a play
pub record PassesAs (before : Receiver) (now : ℕ) (after : Receiver) : Type 0 where
  pub passes : core_of after ≡ receiver_passed (next_play before now) (core_of before)
  pub plays : PlaysAny (patience_of before) (state_of (core_of before)) now (next_play before now) (state_of (core_of after))
  pub counts : after.endpoint.endpoint.counts ≡ count_played (next_play before now) before.endpoint.endpoint.counts
  pub rest : after ≡ record before { endpoint = record before.endpoint { endpoint = record before.endpoint.endpoint { core = core_of after; counts = after.endpoint.endpoint.counts } }; meter = meter_after (passed_by (next_play before now)) now before.meter }

-- an ask is measured by its NACK
abbrev pub meter_of_ask : (follows : Bool) → Receiving → (out : List ℕ) → Result (Option ℕ) TooShort → (now : ℕ) → PathMeter → PathMeter
meter_of_ask true core out (Ok (Some len)) now m = meter_asked core.span (take len out) now m
meter_of_ask follows core out answer now m = m

-- an ask
pub record AsksAs (before : Receiver) (now most : ℕ) (out : List ℕ) (answer : Result (Option ℕ) TooShort) (out' : List ℕ) (after : Receiver) : Type 0 where
  pub asks : AsksMostInto (core_of before).config (state_of (core_of before)) now most out answer out' (state_of (core_of after))
  pub enough : 268 ≤ length out → IsOk answer
  pub err : OnErr answer (core_of after ≡ core_of before)
  pub none : answer ≡ Ok None → core_of after ≡ core_of before
  pub stays : Stays (core_of before) (core_of after)
  pub counts : CountsAskInto out' answer before.endpoint.endpoint.counts after.endpoint.endpoint.counts
  pub asked : RemembersAskInto (highest_of (core_of before).span) out' answer before.endpoint.asked after.endpoint.asked
  pub rest : after ≡ record before {
    endpoint = record before.endpoint { endpoint = record before.endpoint.endpoint { core = core_of after; counts = after.endpoint.endpoint.counts }; asked = after.endpoint.asked };
    meter = meter_of_ask before.follows (core_of after) out' answer now before.meter;
  }

-- Whether each NACK leaves twice: where two copies of it are wanted, and where nothing is said (0), if the times of asks follow the path, and
-- the far side does not answer both.
abbrev pub leaves_twice : Receiver → Bool
leaves_twice r = (r.copies == 2) || ((r.copies == 0) && r.follows && not r.meter.path.trip.both)

-- An ask of so many places at most, whose NACK has room in so many octets at the front of a slice.
pub record AsksFront (space most : ℕ) (before : Receiver) (now : ℕ) (out : List ℕ) (answer : Result (Option ℕ) TooShort) (out' : List ℕ) (after : Receiver) : Type 0 where
  pub front : List ℕ
  pub size : length front ≡ space
  pub asks : AsksAs before now most (take space out) answer front after
  pub whole : out' ≡ front ++ drop space out

-- What is due is asked for in so many octets at most, of as many places as have room there with a pair each; or not at all, where these are less than
-- any NACK has.
abbrev pub AsksWithin : (little : Bool) → (room most : ℕ) → (before : Receiver) → (now : ℕ) → (out : List ℕ) → Result (Option ℕ) TooShort → (out' : List ℕ) → (after : Receiver) → Type 0
AsksWithin true room most before now out answer out' after = (answer ≡ Ok None) × (out' ≡ out) × (after ≡ before)
AsksWithin false room most before now out answer out' after = AsksFront (min (length out) room) (min most (fewer_in room)) before now out answer out' after

-- What is due is asked for, as far as that was earned.
abbrev pub AsksEarned : Option FeedbackBudget → (before : Receiver) → (now most : ℕ) → (out : List ℕ) → Result (Option ℕ) TooShort → (out' : List ℕ) → (after : Receiver) → Type 0
AsksEarned None before now most out answer out' after = AsksAs before now most out answer out' after
AsksEarned (Some b) before now most out answer out' after = AsksWithin (nat_lt (room_in (Some b)) 16) (room_in (Some b)) most before now out answer out' after

-- a NACK is to leave once more, and has left as far as that is to be earned
abbrev pub copied_where : (twice : Bool) → (nack : List ℕ) → Receiver → Receiver
copied_where true nack r = record r { again = Some (record { items = nack }); budget = budget_without (length nack) r.budget }
copied_where false nack r = r

-- A NACK leaves, and once more where it leaves twice and that was earned too.
abbrev pub left_behind : (nack : List ℕ) → Receiver → Receiver
left_behind nack r =
    let budget = budget_without (length nack) r.budget in
    copied_where (leaves_twice r && is_earned (length nack) budget) nack (record r { budget = budget })

abbrev pub left_by : Result (Option ℕ) TooShort → (out : List ℕ) → Receiver → Receiver
left_by (Ok (Some len)) out r = left_behind (take len out) r
left_by answer out r = r

-- A NACK leaves a second time, with the same octets. It is in no count, and nothing is measured by it.
pub record AsksAgain (octets : List ℕ) (before : Receiver) (out : List ℕ) (answer : Result (Option ℕ) TooShort) (out' : List ℕ) (after : Receiver) : Type 0 where
  pub fits : length octets ≤ length out → (answer ≡ Ok (Some (length octets))) × (out' ≡ in_front octets out) × (after ≡ record before { again = None })
  pub short : length out < length octets → (answer ≡ Err (record { needed = length octets })) × (out' ≡ out) × (after ≡ before)

-- what is asked next: what is to leave once more, if there is something, and else what is due
abbrev pub AsksNext : Option (ArrayVec ℕ) → (before : Receiver) → (now most : ℕ) → (out : List ℕ) → Result (Option ℕ) TooShort → (out' : List ℕ) → (after : Receiver) → Type 0
AsksNext (Some copy) before now most out answer out' after = AsksAgain copy.items before out answer out' after
AsksNext None before now most out answer out' after =
    (mid : Receiver) × AsksEarned before.budget before now most out answer out' mid × (after ≡ left_by answer out' mid)

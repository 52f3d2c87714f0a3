-- A NACK has 268 octets at most, so that there is room for a copy of it; and an ask behind it writes that.
use Rattle.std.proofs.Common.{◌≡◌, ℕ, ◌+◌, ◌*◌, ◌<◌, ◌≤◌, ◌==◌, ◌&&◌, nat_lt, min, Bool, true, false, List, [], ◌∷◌, ◌++◌, drop, length, take, Option, Some, None, Result, Ok, Err, refl, sym, ap, subst, arith, ◌∙◌, if◌then◌else◌}
use Rattle.std.specs.Prelude.{◌||◌, not, IsSome}
use Rattle.std.specs.List.{flat_map}
use Rattle.std.proofs.lemmas.List.{length-append, length-take-le, take_at}
use Rattle.std.proofs.lemmas.Bool.Decides.{nat_tests}
use Rattle.std.proofs.lemmas.Option.{none-some}
use Rattle.std.proofs.Math.Nat.{min-le_left, min-le_right}
use Rattle.arrayvec.specs.ArrayVec.{ArrayVec}
use Rattle.byteorder.specs.Endian.{big_number}
use Rattle.rtpwire.specs.declared.fault.TooShort.{TooShort}
use Rattle.fbwire.specs.declared.nack.Pair.{Pair}
use Rattle.fbwire.specs.Nack.{Nack, nack_octets, pair_octets}
use Rattle.receiver.specs.Asks.{AsksMostInto}
use Rattle.receiver.specs.Config.{Config}
use Rattle.receiver.specs.Receiver.{Receiving}
use Rattle.receiver.specs.Window.{ReceiverState}
use Rattle.stores.specs.ByPlace.{slot_at}
use Rattle.stores.specs.Span.{Span, highest_of}
use Rattle.endpoint.specs.declared.path_meter.PathMeter.{PathMeter}
use Rattle.endpoint.specs.Asked.{asked_at}
use Rattle.endpoint.specs.Measuring.{asks_of, is_once, trip_after, trip_asked, trip_probed, trip_watched}
use Rattle.timing.specs.declared.round_trip.Probe.{Probe}
use Rattle.timing.specs.declared.round_trip.RoundTrip.{RoundTrip}
use Rattle.timing.specs.FeedbackBudget.{room_of}
use Rattle.timing.specs.RoundTrip.{doubted, passed_at, probed}
use Rattle.gozdrit.specs.Ends.{Receiver}
use Rattle.timing.specs.declared.feedback_budget.FeedbackBudget.{FeedbackBudget}
use Rattle.timing.specs.NackRoom.{budget_without, fewer_in, room_in}
use Rattle.gozdrit.specs.Budget.{is_earned}
use Rattle.gozdrit.specs.Following.{AsksAgain, AsksAs, AsksEarned, AsksFront, AsksNext, AsksWithin, copied_where, core_of, leaves_twice, left_by, meter_of_ask}

pairs_length : (pairs : List Pair) → length (flat_map pair_octets pairs) ≡ 4 * length pairs
pairs_length [] = refl
pairs_length (p ∷ pairs) = let e = pairs_length pairs in omega (arith, e)

pub nack_is_short : (c : Config) (old new : Option ReceiverState) (now most len : ℕ) (out out' : List ℕ) → AsksMostInto c old now most out (Ok (Some len)) out' new → len ≤ 268
nack_is_short c None new now most len out out' asks = absurd (none-some _ (sym asks.0.0))
nack_is_short c (Some w) new now most len out out' asks =
    let made = asks.0.answers.1 in
    let nack : Nack = record { reporter = c.session.receiver_ssrc; media = c.session.media_ssrc; pairs = made.pairs } in
    let spelled : length (take len out') ≡ length (nack_octets nack) = ap length made.spells.spelled in
    let whole : length (take len out') ≡ len = length-take-le len out' asks.1.within in
    let pairs = pairs_length made.pairs in
    let few = made.asked.packing.few in
    omega (arith, spelled, whole, pairs, few)

-- An ask leaves whether the far side answers both copies of a NACK.
either : (is : Bool) (x y : RoundTrip) (both : Bool) → x.both ≡ both → y.both ≡ both → (if is then x else y).both ≡ both
either true x y both one other = one
either false x y both one other = other

module _ (s : Span) (nack : List ℕ) (now : ℕ) where
  probing : (highest : ℕ) (t : RoundTrip) → (trip_probed s highest nack now t).both ≡ t.both
  probing highest t =
      let place : ℕ = asked_at highest (big_number 2 (drop 12 nack)) in
      let is : Bool = is_once (asks_of (slot_at s place)) in
      either (nat_lt (length nack) 14) t (if is then probed t place now else t) t.both refl (either is (probed t place now) t t.both refl refl)

  watching : (asks : Option ℕ) (place highest : ℕ) (t : RoundTrip) → (trip_watched asks s place highest nack now t).both ≡ t.both
  watching None place highest t = probing highest (passed_at t place)
  watching (Some asks) place highest t = either (nat_lt 1 asks) (doubted t now) t t.both refl refl

  after : (probe : Option Probe) (highest : ℕ) (t : RoundTrip) → (trip_after probe s highest nack now t).both ≡ t.both
  after None highest t = probing highest t
  after (Some p) highest t = watching (asks_of (slot_at s p.place)) p.place highest t

  asked : (highest : Option ℕ) (t : RoundTrip) → (trip_asked highest s nack now t).both ≡ t.both
  asked None t = refl
  asked (Some highest) t = after t.probe highest t

same_both : (follows : Bool) (core : Receiving) (out : List ℕ) (answer : Result (Option ℕ) TooShort) (now : ℕ) (m : PathMeter) → (meter_of_ask follows core out answer now m).path.trip.both ≡ m.path.trip.both
same_both true core out (Ok (Some len)) now m = asked core.span (take len out) now (highest_of core.span) m.path.trip
same_both true core out (Ok None) now m = refl
same_both true core out (Err short) now m = refl
same_both false core out answer now m = refl

-- An ask leaves how often a NACK leaves.
same_copies : (before mid : Receiver) (now most : ℕ) (out out' : List ℕ) (answer : Result (Option ℕ) TooShort) → AsksAs before now most out answer out' mid → leaves_twice mid ≡ leaves_twice before
same_copies before mid now most out out' answer asks =
    let copies : mid.copies ≡ before.copies = ap (λ (r : Receiver). r.copies) asks.rest in
    let follows : mid.follows ≡ before.follows = ap (λ (r : Receiver). r.follows) asks.rest in
    let both : mid.meter.path.trip.both ≡ before.meter.path.trip.both =
    ap (λ (r : Receiver). r.meter.path.trip.both) asks.rest ∙ same_both before.follows (core_of mid) out' answer now before.meter in
    λ i. (copies i == 2) || ((copies i == 0) && follows i && not (both i))

-- An ask leaves what is to leave once more, what was earned, and how often a NACK leaves.
record Keeps (before mid : Receiver) : Type 0 where
  again : mid.again ≡ before.again
  budget : mid.budget ≡ before.budget
  twice : leaves_twice mid ≡ leaves_twice before

kept_as : (before mid : Receiver) (now most : ℕ) (out out' : List ℕ) (answer : Result (Option ℕ) TooShort) → AsksAs before now most out answer out' mid → Keeps before mid
kept_as before mid now most out out' answer asks =
    record {
      again = ap (λ (r : Receiver). r.again) asks.rest;
      budget = ap (λ (r : Receiver). r.budget) asks.rest;
      twice = same_copies before mid now most out out' answer asks;
    }

kept_front : (room most : ℕ) (before : Receiver) (now : ℕ) (out : List ℕ) (answer : Result (Option ℕ) TooShort) (out' : List ℕ) (mid : Receiver) → AsksFront room most before now out answer out' mid → Keeps before mid
kept_front room most before now out answer out' mid asks = kept_as before mid now most (take room out) asks.front answer asks.asks

kept_within : (little : Bool) (room most : ℕ) (before : Receiver) (now : ℕ) (out : List ℕ) (answer : Result (Option ℕ) TooShort) (out' : List ℕ) (mid : Receiver) → AsksWithin little room most before now out answer out' mid → Keeps before mid
kept_within true room most before now out answer out' mid asks =
    let same : mid ≡ before = asks.2 in
    record { again = ap (λ (r : Receiver). r.again) same; budget = ap (λ (r : Receiver). r.budget) same; twice = ap leaves_twice same }
kept_within false room most before now out answer out' mid asks = kept_front (min (length out) room) (min most (fewer_in room)) before now out answer out' mid asks

kept_earned : (b : Option FeedbackBudget) (before mid : Receiver) (now most : ℕ) (out out' : List ℕ) (answer : Result (Option ℕ) TooShort) → AsksEarned b before now most out answer out' mid → Keeps before mid
kept_earned None before mid now most out out' answer asks = kept_as before mid now most out out' answer asks
kept_earned (Some b) before mid now most out out' answer asks = kept_within (nat_lt (room_in (Some b)) 16) (room_in (Some b)) most before now out answer out' mid asks

-- Where a NACK leaves once, nothing is to leave once more behind it.
once_behind : (nack : List ℕ) (r : Receiver) (twice earned : Bool) → twice ≡ false → (copied_where (twice && earned) nack r).again ≡ r.again
once_behind nack r false earned once = refl
once_behind nack r true earned once = absurd (cc)

once_by : (answer : Result (Option ℕ) TooShort) (out : List ℕ) (r : Receiver) → leaves_twice r ≡ false → (left_by answer out r).again ≡ r.again
once_by (Ok (Some len)) out r once =
    let nack = take len out in let budget = budget_without (length nack) r.budget in
    once_behind nack (record r { budget = budget }) (leaves_twice r) (is_earned (length nack) budget) once
once_by (Ok None) out r once = refl
once_by (Err short) out r once = refl

pub leaves_once : (r mid : Receiver) (now most : ℕ) (out out' : List ℕ) (answer : Result (Option ℕ) TooShort) → r.again ≡ None → leaves_twice r ≡ false → AsksNext r.again r now most out answer out' mid → mid.again ≡ None
leaves_once r mid now most out out' answer none once next =
    let first = subst (λ (a : Option (ArrayVec ℕ)). AsksNext a r now most out answer out' mid) none next in
    let keeps = kept_earned r.budget r first.0 now most out out' answer first.1 in
    ap (λ (x : Receiver). x.again) first.2 ∙ once_by answer out' first.0 (keeps.twice ∙ once) ∙ keeps.again ∙ none

-- A NACK that was written has so many octets.
front_written : (space most : ℕ) (before : Receiver) (now : ℕ) (out : List ℕ) (len : ℕ) (out' : List ℕ) (mid : Receiver) → AsksFront space most before now out (Ok (Some len)) out' mid → len ≤ length out'
front_written space most before now out len out' mid asks =
    let within : len ≤ length asks.front = asks.asks.asks.1.within in
    let more : length (asks.front ++ drop space out) ≡ length asks.front + length (drop space out) = length-append asks.front (drop space out) in
    let whole : length out' ≡ length (asks.front ++ drop space out) = ap length asks.whole in
    omega (arith, within, more, whole)

within_written : (little : Bool) (room most : ℕ) (before : Receiver) (now : ℕ) (out : List ℕ) (len : ℕ) (out' : List ℕ) (mid : Receiver) → AsksWithin little room most before now out (Ok (Some len)) out' mid → len ≤ length out'
within_written true room most before now out len out' mid asks = let never = asks.0 in absurd (cc)
within_written false room most before now out len out' mid asks = front_written (min (length out) room) (min most (fewer_in room)) before now out len out' mid asks

earned_written : (b : Option FeedbackBudget) (before mid : Receiver) (now most len : ℕ) (out out' : List ℕ) → AsksEarned b before now most out (Ok (Some len)) out' mid → len ≤ length out'
earned_written None before mid now most len out out' asks = asks.asks.1.within
earned_written (Some b) before mid now most len out out' asks = within_written (nat_lt (room_in (Some b)) 16) (room_in (Some b)) most before now out len out' mid asks

-- Where it leaves twice, and both are earned, it is to leave once more.
twice_behind : (nack : List ℕ) (r : Receiver) (budget : Option FeedbackBudget) → leaves_twice r ≡ true → is_earned (length nack) budget ≡ true
    → (copied_where (leaves_twice r && is_earned (length nack) budget) nack (record r { budget = budget })).again ≡ Some (record { items = nack })
twice_behind nack r budget twice earned =
    ap (λ (x : Bool). (copied_where (x && is_earned (length nack) budget) nack (record r { budget = budget })).again) twice
    ∙ ap (λ (x : Bool). (copied_where (true && x) nack (record r { budget = budget })).again) earned

again_after : (r mid : Receiver) (now most len : ℕ) (out out' : List ℕ) → r.again ≡ None → is_earned len (budget_without len r.budget) ≡ true → leaves_twice r ≡ true → AsksNext r.again r now most out (Ok (Some len)) out' mid
    → mid.again ≡ Some (record { items = take len out' })
again_after r mid now most len out out' none earned twice next =
    let first = subst (λ (a : Option (ArrayVec ℕ)). AsksNext a r now most out (Ok (Some len)) out' mid) none next in
    let keeps = kept_earned r.budget r first.0 now most out out' (Ok (Some len)) first.1 in
    let nack = take len out' in
    let whole : length nack ≡ len = length-take-le len out' (earned_written r.budget r first.0 now most len out out' first.1) in
    let has : is_earned (length nack) (budget_without (length nack) first.0.budget) ≡ true =
    ap (λ (n : ℕ). is_earned n (budget_without n first.0.budget)) whole ∙ ap (λ (b : Option FeedbackBudget). is_earned len (budget_without len b)) keeps.budget ∙ earned in
    ap (λ (x : Receiver). x.again) first.2 ∙ twice_behind nack first.0 (budget_without (length nack) first.0.budget) (keeps.twice ∙ twice) has

written : (r mid : Receiver) (now most len : ℕ) (out out' : List ℕ) → r.again ≡ None → AsksNext r.again r now most out (Ok (Some len)) out' mid → length (take len out') ≡ len
written r mid now most len out out' none next =
    let first = subst (λ (a : Option (ArrayVec ℕ)). AsksNext a r now most out (Ok (Some len)) out' mid) none next in
    length-take-le len out' (earned_written r.budget r first.0 now most len out out' first.1)

-- The second time its octets are the same.
pub second_copy : (r mid after : Receiver) (now later most next_most len : ℕ) (out out' next next' : List ℕ) (answer : Result (Option ℕ) TooShort) → r.again ≡ None → is_earned len (budget_without len r.budget) ≡ true → leaves_twice r ≡ true
    → AsksNext r.again r now most out (Ok (Some len)) out' mid → len ≤ length next → AsksNext mid.again mid later next_most next answer next' after
    → (answer ≡ Ok (Some len)) × (take len next' ≡ take len out') × (after ≡ record mid { again = None })
second_copy r mid after now later most next_most len out out' next next' answer none earned twice first room second =
    let kept = again_after r mid now most len out out' none earned twice first in
    let whole = written r mid now most len out out' none first in
    let copied = subst (λ (a : Option (ArrayVec ℕ)). AsksNext a mid later next_most next answer next' after) kept second in
    let done = copied.fits (subst (λ (n : ℕ). n ≤ length next) (sym whole) room) in
    (done.0 ∙ ap (λ (n : ℕ). Ok (Some n)) whole, ap (take len) done.1 ∙ take_at (take len out') _ len whole, done.2)

-- Where something is to leave once more, that is what is asked next.
pub asks_copy : (again : Option (ArrayVec ℕ)) (before after : Receiver) (now most : ℕ) (out out' : List ℕ) (answer : Result (Option ℕ) TooShort) → IsSome again
    → ((copy : ArrayVec ℕ) → again ≡ Some copy → AsksAgain copy.items before out answer out' after) → AsksNext again before now most out answer out' after
asks_copy None before after now most out out' answer is asks = let never = is in absurd (cc)
asks_copy (Some copy) before after now most out out' answer is asks = asks copy refl

-- Where nothing is to, what is due is, and leaves.
pub asks_due : (again : Option (ArrayVec ℕ)) (before mid after : Receiver) (now most : ℕ) (out out' : List ℕ) (answer : Result (Option ℕ) TooShort) → again ≡ None
    → AsksEarned before.budget before now most out answer out' mid → after ≡ left_by answer out' mid → AsksNext again before now most out answer out' after
asks_due None before mid after now most out out' answer none asks left = (mid, asks, left)
asks_due (Some copy) before mid after now most out out' answer none asks left = absurd (cc)

-- What leaves has no more octets than were earned.
front_within : (space most : ℕ) (before : Receiver) (now : ℕ) (out : List ℕ) (len : ℕ) (out' : List ℕ) (mid : Receiver) → AsksFront space most before now out (Ok (Some len)) out' mid → len ≤ space
front_within space most before now out len out' mid asks = subst (λ (n : ℕ). len ≤ n) asks.size asks.asks.asks.1.within

within_room : (little : Bool) (room most : ℕ) (before : Receiver) (now : ℕ) (out : List ℕ) (len : ℕ) (out' : List ℕ) (mid : Receiver) → AsksWithin little room most before now out (Ok (Some len)) out' mid → len ≤ room
within_room true room most before now out len out' mid asks = let never = asks.0 in absurd (cc)
within_room false room most before now out len out' mid asks =
    let few = front_within (min (length out) room) (min most (fewer_in room)) before now out len out' mid asks in let least = min-le_right (length out) room in omega (arith, few, least)

pub earned_before : (b : FeedbackBudget) (r mid : Receiver) (now most len : ℕ) (out out' : List ℕ) → r.again ≡ None → r.budget ≡ Some b → AsksNext r.again r now most out (Ok (Some len)) out' mid → len ≤ room_of b
earned_before b r mid now most len out out' none some next =
    let first = subst (λ (a : Option (ArrayVec ℕ)). AsksNext a r now most out (Ok (Some len)) out' mid) none next in
    let asks = subst (λ (it : Option FeedbackBudget). AsksEarned it r now most out (Ok (Some len)) out' first.0) some first.1 in
    let few = within_room (nat_lt (room_in (Some b)) 16) (room_in (Some b)) most r now out len out' first.0 asks in
    let least = min-le_left (room_of b) 268 in omega (arith, few, least)

-- What is due is asked for where one place has room.
pub asked_where_one_has_room : (b : FeedbackBudget) (r mid : Receiver) (now most : ℕ) (out out' : List ℕ) (answer : Result (Option ℕ) TooShort) → 0 < fewer_in (room_in (Some b)) → AsksEarned (Some b) r now most out answer out' mid
    → AsksFront (min (length out) (room_in (Some b))) (min most (fewer_in (room_in (Some b)))) r now out answer out' mid
asked_where_one_has_room b r mid now most out out' answer some asks =
    subst (λ (little : Bool). AsksWithin little (room_in (Some b)) most r now out answer out' mid) (enough (room_in (Some b)) some) asks
  where
    enough : (room : ℕ) → 0 < fewer_in room → nat_lt room 16 ≡ false
    enough room has = grind (arith, nat_tests, has)

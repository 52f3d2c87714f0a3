-- What a run of the place world asks for has its cause.
use Rattle.std.proofs.Common.{◌≡◌, ◌≢◌, ◌⊎◌, ℕ, zero, suc, ◌+◌, ◌<◌, ◌≤◌, Bool, true, false, ◌==◌, ◌||◌, ◌&&◌, List, [], ◌∷◌, length, take, Option, Some, None, if◌then◌else◌, refl, sym, ap, subst, ◌∙◌, ⊎_elim, inl, inr, arith, eq-eqb}
use Rattle.std.specs.Prelude.{◌↔◌, Contains, is_some, slice_get}
use Rattle.std.specs.Option.{option_map}
use Rattle.std.proofs.lemmas.Bool.{cases_eq, cases_lt, or_cases, eqb-true}
use Rattle.std.proofs.lemmas.Bool.Decides.{nat_tests}
use Rattle.std.proofs.lemmas.Option.{none-some, same_Some}
use Rattle.places.specs.Among.{is_among}
use Rattle.places.specs.Place.{number}
use Rattle.rtpwire.specs.declared.content.Content.{Content}
use Rattle.fbwire.specs.declared.nack.Pair.{Pair}
use Rattle.fbwire.specs.Nack.{Names, numbers_of}
use Rattle.receiver.specs.Window.{Missed, ReceiverState, new_missed, Starts, Takes, Passes}
use Rattle.receiver.specs.Asks.{is_due, asked_once, Asks}
use Rattle.stores.specs.Asking.{longest_ask}
use Rattle.world.specs.declared.event.Label.{Label}
use Rattle.world.specs.declared.event.Answer.TheVariants.{Taken, Refused, Marked, FeedbackRefused}
use Rattle.world.specs.declared.event.Entry.{Entry}
use Rattle.world.specs.declared.event.Entry.TheVariants.{Sent, SendRefused, Repaired, NoRepair, Asked, NoAsk, Nothing, Delivered, Injected, Played}
use Rattle.world.specs.Config.{Config, IsConfig}
use Rattle.world.specs.Justified.{noticed_of, earlier_or}
use Rattle.world.specs.JustifiedAsks.{pairs_under, is_named, asked_at, IsAhead, IsTimeToAsk, IsToAskFor, IsAskFor}
use Rattle.world.specs.PlaceRun.{AsksDueBy}
use Rattle.world.proofs.Among.{among_take, number_among, among_number}
use Rattle.world.proofs.Kept.{noticed_in, KeptBy}
use Rattle.world.proofs.Ready.{due_missing}
use Rattle.world.proofs.Spans.{Spans, asked_was, spans_starts, spans_takes, spans_passes, spans_asks}

-- what a list contains is among it
pub contains_among : (xs : List ℕ) (n : ℕ) → Contains xs n → is_among xs n ≡ true
contains_among [] n (i, within, at) = absurd (omega (arith, within))
contains_among (x ∷ xs) n (zero, within, at) = ap (λ b. b || is_among xs n) (eq-eqb x n at)
contains_among (x ∷ xs) n (suc i, within, at) = later (x == n) (is_among xs n) (contains_among xs n (i, omega (arith, within), at))
  where
    later : (a b : Bool) → b ≡ true → (a || b) ≡ true
    later a b e = grind (arith, nat_tests)

pub among_contains : (xs : List ℕ) (n : ℕ) → is_among xs n ≡ true → Contains xs n
among_contains [] n e = absurd cc
among_contains (x ∷ xs) n e =
    ⊎_elim
    (λ (here : (x == n) ≡ true). let h : Contains (x ∷ xs) n = (0, omega arith, eqb-true x n here) in h)
    (λ later. let rest = among_contains xs n later in let h : Contains (x ∷ xs) n = (suc rest.0, omega (arith, rest.1), rest.2) in h)
    (or_cases (x == n) (is_among xs n) e)

-- tests that hold together are one
pub same_tests : (a b : Bool) → (a ≡ true → b ≡ true) → (b ≡ true → a ≡ true) → a ≡ b
same_tests true b f g = sym (f refl)
same_tests false true f g = g refl
same_tests false false f g = refl

-- the numbers that pairs name, as a list and as a set, by the law of NACKs
abbrev pub NamesListed : Type 0
NamesListed = (pairs : List Pair) (n : ℕ) → Names pairs n ↔ Contains (numbers_of pairs) n

-- what is known of a missing place tells the moments at which it was asked for
abbrev LastIs : List ℕ → (last : ℕ) → Type 0
LastIs [] last = Unit {0}
LastIs (moment ∷ earlier) last = moment ≡ last

pub record TellsAsks (moments : List ℕ) (m : Missed) : Type 0 where
  pub count : m.asks ≡ length moments
  pub last : LastIs moments m.last

-- A window beside the moments at which each place was asked for, which are a reading of the log.
pub record Counts (room : ℕ) (moments : ℕ → List ℕ) (w : ReceiverState) : Type 0 where
  pub spans : Spans room w
  pub each : (k : ℕ) (m : Missed) → w.missing k ≡ Some m → TellsAsks (moments k) m

module _ (room : ℕ) (some : 1 ≤ room) (moments : ℕ → List ℕ) where
  pub counts_starts : (place : ℕ) (c : Content) (new : ReceiverState) → Starts place c new → Counts room moments new
  counts_starts place c new t = record { spans = spans_starts room place c new some t; each = λ k m is. absurd (none-some m (sym (t.missing k) ∙ is)) }

  fresh_asks : (k now : ℕ) (m : Missed) → moments k ≡ [] → Some (new_missed now) ≡ Some m → TellsAsks (moments k) m
  fresh_asks k now m none is = subst (λ (x : List ℕ × Missed). TellsAsks x.0 x.1) (λ i. (sym none i, same_Some (new_missed now) m is i)) (record { count = refl; last = tt })

  pub counts_takes : (place now : ℕ) (c : Content) (old new : ReceiverState) → ((k : ℕ) → old.highest ≤ k → moments k ≡ []) → Takes room old place c now new → Counts room moments old → Counts room moments new
  counts_takes place now c old new unasked t was = record { spans = spans_takes room place now c old new some t was.spans; each = each }
    where
      from_cursor : (k : ℕ) (m : Missed) → new.cursor ≤ k → (k ≡ place) ⊎ (k ≢ place) → (old.highest < k) ⊎ (k ≤ old.highest) → (k < place) ⊎ (place ≤ k) → new.missing k ≡ Some m → TellsAsks (moments k) m
      from_cursor k m high (inl here) over near is = absurd (none-some m (sym t.missing ∙ ap new.missing (sym here) ∙ is))
      from_cursor k m high (inr other) (inr low) near is = was.each k m (sym (t.missing_below k high other low) ∙ is)
      from_cursor k m high (inr other) (inl over) (inl near) is = fresh_asks k now m (unasked k (omega (arith, over))) (sym (t.missing_between k high over near) ∙ is)
      from_cursor k m high (inr other) (inl over) (inr far) is = was.each k m (sym (t.missing_above k high (omega (arith, far, other))) ∙ is)

      each : (k : ℕ) (m : Missed) → new.missing k ≡ Some m → TellsAsks (moments k) m
      each k m is =
          ⊎_elim
          (λ low. absurd (none-some m (sym (t.missing_dropped k low) ∙ is)))
          (λ high. from_cursor k m high (cases_eq k place) (cases_lt old.highest k) (cases_lt k place) is)
          (cases_lt k new.cursor)

  pub counts_passes : (old new : ReceiverState) → Passes old new → Counts room moments old → Counts room moments new
  counts_passes old new t was =
      record {
        spans = spans_passes room old new t was.spans;
        each = λ k m is. ⊎_elim
            (λ (here : k ≡ old.cursor). absurd (none-some m (sym t.missing_dropped ∙ ap new.missing (sym here) ∙ is)))
            (λ other. was.each k m (sym (t.missing k other) ∙ is))
            (cases_eq k old.cursor);
      }

  pub counts_learns : (old : ReceiverState) (learnt : Option ℕ) → Counts room moments old → Counts room moments (record old { learnt = learnt })
  counts_learns old learnt was = record { spans = record { short = was.spans.short; above = was.spans.above; missing = was.spans.missing }; each = was.each }

  -- An ask of a place that is missing is one more, and of no other is.
  pub counts_asks : (now : ℕ) (covered : List ℕ) (more : ℕ → List ℕ) (old new : ReceiverState) → ((k : ℕ) (m : Missed) → old.missing k ≡ Some m → more k ≡ (if is_among covered k then now ∷ moments k else moments k)) →
      Asks old covered now new → Counts room moments old → Counts room more new
  counts_asks now covered more old new adds t was = record { spans = spans_asks room now covered old new t was.spans; each = each }
    where
      by : (b : Bool) (old_moments : List ℕ) (m' m : Missed) → TellsAsks old_moments m' → (if b then option_map (asked_once now) (Some m') else Some m') ≡ Some m → TellsAsks (if b then now ∷ old_moments else old_moments) m
      by true old_moments m' m tells is = subst (λ (x : Missed). TellsAsks (now ∷ old_moments) x) (same_Some (asked_once now m') m is) (record { count = let h = tells.count in omega (arith, h); last = refl })
      by false old_moments m' m tells is = subst (λ (x : Missed). TellsAsks old_moments x) (same_Some m' m is) tells

      each : (k : ℕ) (m : Missed) → new.missing k ≡ Some m → TellsAsks (more k) m
      each k m is =
          let was_missing = asked_was (is_among covered k) now (old.missing k) m (sym (t.missing k) ∙ is) in
          let told = ap (λ o. if is_among covered k then option_map (asked_once now) o else o) (sym was_missing.1) ∙ sym (t.missing k) ∙ is in
          subst (λ (x : List ℕ). TellsAsks x m) (sym (adds k was_missing.0 was_missing.1)) (by (is_among covered k) (moments k) was_missing.0 m (was.each k was_missing.0 was_missing.1) told)

-- when a place is due, by what is known of it and by the moments of its asks
due_says : (delay retry limit now : ℕ) (m : Missed) (moments : List ℕ) → TellsAsks moments m → is_due now delay retry limit (Some m) ≡ true → (length moments < limit) × IsTimeToAsk delay retry m.noticed moments now
due_says delay retry limit now m [] tells due = let count = tells.count in (grind (arith, nat_tests, count, due), λ some. grind (arith, nat_tests, count, due))
due_says delay retry limit now m (moment ∷ earlier) tells due = let count = tells.count in let last = tells.last in (grind (arith, nat_tests, count, due), grind (arith, nat_tests, count, last, due))

says_due : (delay retry limit now : ℕ) (m : Missed) (moments : List ℕ) → TellsAsks moments m → length moments < limit → IsTimeToAsk delay retry m.noticed moments now → is_due now delay retry limit (Some m) ≡ true
says_due delay retry limit now m [] tells fewer time = let count = tells.count in
    ⊎_elim
    (λ (none : delay ≡ 0). grind (arith, nat_tests, count, fewer, none))
    (λ some. let long = time some in grind (arith, nat_tests, count, fewer, long))
    (cases_eq delay 0)
says_due delay retry limit now m (moment ∷ earlier) tells fewer time = let count = tells.count in let last = tells.last in grind (arith, nat_tests, count, last, fewer, time)

-- a place that was not noticed was not asked for
earlier_none : (o : Option ℕ) (place above now : ℕ) → earlier_or o place above now ≡ None → o ≡ None
earlier_none None place above now is = refl
earlier_none (Some moment) place above now is = absurd (none-some moment (sym is))

pub never_asked : (labels : List Label) (past : List Entry) (k : ℕ) → noticed_of past k ≡ None → asked_at labels past k ≡ []
never_asked labels [] k none = refl
never_asked labels (Sent place index content ∷ past) k none = never_asked labels past k none
never_asked labels (SendRefused fault ∷ past) k none = never_asked labels past k none
never_asked labels (Repaired place index ∷ past) k none = never_asked labels past k none
never_asked labels (NoRepair ∷ past) k none = never_asked labels past k none
never_asked labels (Asked index now ∷ past) k none =
    ap (λ o. if is_some o && is_named labels index k then now ∷ asked_at labels past k else asked_at labels past k) none ∙ never_asked labels past k none
never_asked labels (NoAsk now ∷ past) k none = never_asked labels past k none
never_asked labels (Nothing ∷ past) k none = never_asked labels past k none
never_asked labels (Delivered index label now (Taken taken) ∷ past) k none = never_asked labels past k (earlier_none (noticed_of past k) k taken.place now none)
never_asked labels (Delivered index label now (Refused fault) ∷ past) k none = never_asked labels past k none
never_asked labels (Delivered index label now (Marked marked) ∷ past) k none = never_asked labels past k none
never_asked labels (Delivered index label now (FeedbackRefused fault) ∷ past) k none = never_asked labels past k none
never_asked labels (Injected end now (Taken taken) ∷ past) k none = never_asked labels past k (earlier_none (noticed_of past k) k taken.place now none)
never_asked labels (Injected end now (Refused fault) ∷ past) k none = never_asked labels past k none
never_asked labels (Injected end now (Marked marked) ∷ past) k none = never_asked labels past k none
never_asked labels (Injected end now (FeedbackRefused fault) ∷ past) k none = never_asked labels past k none
never_asked labels (Played now answer ∷ past) k none = never_asked labels past k none

module _ (c : Config) (labels : List Label) (past : List Entry) (w : ReceiverState) (kept : KeptBy c past w) (counts : Counts c.window (λ k. asked_at labels past k) w) (now k : ℕ) where
  abbrev is_due_now : Option Missed → Bool
  is_due_now o = is_due now c.receiver.delay c.receiver.retry c.receiver.asks o

  -- a due place is to be asked for
  due_to_ask : is_due_now (w.missing k) ≡ true → IsToAskFor c labels past k now
  due_to_ask due =
      let missed = due_missing c now (w.missing k) due in
      let inside = counts.spans.missing k missed.0 missed.1 in
      let says = due_says c.receiver.delay c.receiver.retry c.receiver.asks now missed.0 (asked_at labels past k) (counts.each k missed.0 missed.1) (sym (ap is_due_now missed.1) ∙ due) in
      record {
        ahead = subst (λ o. IsAhead o k) (sym kept.cursor) inside.0;
        not_reached = λ r. kept.reached k inside.0 r inside.2;
        fewer = says.0;
        noticed = (missed.0.noticed, sym (kept.noticed k inside.0 inside.2) ∙ ap noticed_in missed.1, says.1);
      }

  is_missed_at : (o : Option Missed) (t : ℕ) → noticed_in o ≡ Some t → (m : Missed) × (o ≡ Some m) × (m.noticed ≡ t)
  is_missed_at None t e = absurd (none-some t e)
  is_missed_at (Some m) t e = (m, refl, same_Some m.noticed t e)

  not_held : (o : Option Content) → w.held k ≡ o → IsToAskFor c labels past k now → o ≡ None
  not_held None is wanted = refl
  not_held (Some content) is wanted = absurd (wanted.not_reached (kept.came k content is))

  -- and no other is
  pub ask_due : IsToAskFor c labels past k now → is_due_now (w.missing k) ≡ true
  ask_due wanted =
      let from : w.cursor ≤ k = subst (λ o. IsAhead o k) kept.cursor wanted.ahead in
      let free : w.held k ≡ None = not_held (w.held k) refl wanted in
      let missed = is_missed_at (w.missing k) wanted.noticed.0 (kept.noticed k from free ∙ wanted.noticed.1) in
      ap is_due_now missed.1
      ∙ says_due c.receiver.delay c.receiver.retry c.receiver.asks now missed.0 (asked_at labels past k) (counts.each k missed.0 missed.1) wanted.fewer
      (subst (λ t. IsTimeToAsk c.receiver.delay c.receiver.retry t (asked_at labels past k) now) (sym missed.2) wanted.noticed.2)

-- An ask by the pairs under its label.
module _ (names : NamesListed) (c : Config) (met : IsConfig c) (labels : List Label) (past : List Entry) (w : ReceiverState) (kept : KeptBy c past w) (counts : Counts c.window (λ k. asked_at labels past k) w) (now : ℕ) where
  pub ask_for : (pairs : List Pair) (new : Option ReceiverState) → AsksDueBy c.receiver w now pairs new → IsAskFor c labels past now pairs
  ask_for pairs new step =
      record {
        places = step.due;
        rising = step.each.rises;
        each = λ k. (λ among. due_to_ask c labels past w kept counts now k (sym (step.each.each k) ∙ among), λ wanted. step.each.each k ∙ ask_due c labels past w kept counts now k wanted);
        narrow = step.asked.narrow;
        covered = step.asked.count;
        some = step.asked.covers;
        packing = step.asked.packing;
      }

  module _ (pairs : List Pair) (new : Option ReceiverState) (step : AsksDueBy c.receiver w now pairs new) where
    abbrev covered : List ℕ
    covered = take step.asked.count (take longest_ask step.due)

    -- a missing place whose number is named was asked for, since its number is that of no other missing place
    named_covered : (k : ℕ) (m : Missed) → w.missing k ≡ Some m → is_among (numbers_of pairs) (number k) ≡ true → is_among covered k ≡ true
    named_covered k m is among =
        let named : Names pairs (number k) = (names pairs (number k)).1 (among_contains (numbers_of pairs) (number k) among) in
        let other = number_among covered (number k) ((step.asked.packing.fewest.exact (number k)).0 named) in
        let due = sym (step.each.each other.0) ∙ among_take longest_ask step.due other.0 (among_take step.asked.count (take longest_ask step.due) other.0 other.1) in
        let missed = due_missing c now (w.missing other.0) due in
        let here = counts.spans.missing k m is in
        let there = counts.spans.missing other.0 missed.0 missed.1 in
        let same : other.0 ≡ k = one_place other.0 k w.cursor w.highest c.window other.2 there.0 there.1 here.0 here.1 counts.spans.short met.window in
        ap (is_among covered) (sym same) ∙ other.1
      where
        one_place : (a b cursor highest window : ℕ) → number a ≡ number b → cursor ≤ a → a < highest → cursor ≤ b → b < highest → highest < cursor + window → window ≤ 8192 → a ≡ b
        one_place a b cursor highest window same from below from' below' short wide = omega arith

    covered_named : (k : ℕ) → is_among covered k ≡ true → is_among (numbers_of pairs) (number k) ≡ true
    covered_named k among =
        contains_among (numbers_of pairs) (number k) ((names pairs (number k)).0 ((step.asked.packing.fewest.exact (number k)).1 (among_number covered k among)))

    -- so the log with this ask tells one more of the covered places
    adds : (index : ℕ) → pairs_under (slice_get labels index) ≡ pairs → (k : ℕ) (m : Missed) → w.missing k ≡ Some m → asked_at labels (Asked index now ∷ past) k ≡ (if is_among covered k then now ∷ asked_at labels past k else asked_at labels past k)
    adds index here k m is =
        let inside = counts.spans.missing k m is in
        let noticed : noticed_of past k ≡ Some m.noticed = sym (kept.noticed k inside.0 inside.2) ∙ ap noticed_in is in
        let named = same_tests (is_among (numbers_of pairs) (number k)) (is_among covered k) (named_covered k m is) (covered_named k) in
        ap (λ o. if is_some o && is_named labels index k then now ∷ asked_at labels past k else asked_at labels past k) noticed
        ∙ ap (λ ps. if is_among (numbers_of ps) (number k) then now ∷ asked_at labels past k else asked_at labels past k) here
        ∙ ap (λ b. if b then now ∷ asked_at labels past k else asked_at labels past k) named

    pub counts_ask : (index : ℕ) (v : ReceiverState) → pairs_under (slice_get labels index) ≡ pairs → Asks w covered now v → Counts c.window (λ k. asked_at labels (Asked index now ∷ past) k) v
    counts_ask index v here asks = counts_asks c.window met.some_window (λ k. asked_at labels past k) now covered (λ k. asked_at labels (Asked index now ∷ past) k) w v (adds index here) asks counts

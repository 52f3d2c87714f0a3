-- No place is asked for more often than the limit, whatever a receiver does.
use Rattle.std.proofs.Common.{◌≡◌, ◌≢◌, ℕ, ◌<◌, ◌≤◌, Bool, true, false, cond, List, take, Option, Some, None, IsSomeAnd, IfSome, option_map, Result, Ok, Err, refl, sym, ap, subst, ◌∙◌, inl, inr, arith}
use Rattle.std.proofs.lemmas.Bool.{cases_eq, cases_lt}
use Rattle.std.proofs.lemmas.Bool.Decides.{nat_tests}
use Rattle.arrayvec.specs.ArrayVec.{ArrayVec}
use Rattle.places.specs.Among.{is_among}
use Rattle.rtpwire.specs.declared.content.Content.{Content}
use Rattle.rtpwire.specs.declared.fault.TooShort.{TooShort}
use Rattle.receiver.specs.declared.answer.Taken.{Taken}
use Rattle.receiver.specs.declared.answer.Played.{Played}
use Rattle.receiver.specs.declared.answer.Played.TheVariants.{Packet, Gap, Wait}
use Rattle.receiver.specs.declared.fault.ReceiveFault.{ReceiveFault}
use Rattle.receiver.specs.declared.stream.Stream.{Stream}
use Rattle.receiver.specs.declared.stream.Stream.TheVariants.{Media, Repair, Candidate}
use Rattle.receiver.specs.Config.{Config}
use Rattle.receiver.specs.Window.{Missed, ReceiverState, Takes, Passes, AnswersPlace, Plays, PlaysAny}
use Rattle.receiver.specs.Asks.{is_due, asked_once, asked_into, Asks, AsksMost, AsksMostInto, AsksWithin, looked_at}
use Rattle.receiver.specs.Heard.{AnswersIn, TakesNumber, Hears, TakesOrRefuses}
use Rattle.receiver.proofs.Rising.{among_take}
use Rattle.receiver.proofs.Whichever.{whichever}

-- a place that is asked for was asked for fewer times than the limit
kept : (now delay retry limit : ℕ) (m : Option Missed) (among : Bool) → (among ≡ true → is_due now delay retry limit m ≡ true) → IfSome m (λ x. x.asks ≤ limit) →
    IfSome (cond among (option_map (asked_once now) m) m) (λ x. x.asks ≤ limit)
kept now delay retry limit None true due keeps = keeps
kept now delay retry limit None false due keeps = keeps
kept now delay retry limit (Some m) true due keeps = let is = due refl in grind (arith, nat_tests)
kept now delay retry limit (Some m) false due keeps = keeps

keeps_at : (c : Config) (now : ℕ) (old : ReceiverState) (most : ℕ) (due : List ℕ) (count : ℕ) (new : Option ReceiverState) → ((q : ℕ) → is_among due q ≡ is_due now c.delay c.retry c.asks (old.missing q)) →
    IsSomeAnd new (Asks old (take count (take (looked_at most) due)) now) → AsksWithin c.asks (Some old) → AsksWithin c.asks new
keeps_at c now old most due count None each none keeps = absurd none
keeps_at c now old most due count (Some new) each asks keeps =
    λ k. subst (λ (m : Option Missed). IfSome m (λ x. x.asks ≤ c.asks)) (sym (asks.missing k))
    (kept now c.delay c.retry c.asks (old.missing k) _ (λ among. sym (each k) ∙ among_take (looked_at most) due k (among_take count (take (looked_at most) due) k among)) (keeps k))

pub asks_keep : (c : Config) (now most : ℕ) (old : Option ReceiverState) (answer : Option (ArrayVec ℕ)) (new : Option ReceiverState) → AsksMost c old now most answer new → AsksWithin c.asks old → AsksWithin c.asks new
asks_keep c now most None answer new (none, is) keeps = subst (λ (s : Option ReceiverState). AsksWithin c.asks s) (sym is) keeps
asks_keep c now most (Some old) None new a keeps = subst (λ (s : Option ReceiverState). AsksWithin c.asks s) (sym a.answers.1) keeps
asks_keep c now most (Some old) (Some datagram) new a keeps = keeps_at c now old most a.due a.answers.1.asked.count new a.each.each a.answers.1.asked.asks keeps

pub asks_into_keep : (c : Config) (now most : ℕ) (old : Option ReceiverState) (out : List ℕ) (answer : Result (Option ℕ) TooShort) (out' : List ℕ) (new : Option ReceiverState)
    → AsksMostInto c old now most out answer out' new → AsksWithin c.asks old → AsksWithin c.asks new
asks_into_keep c now most old out (Ok answer) out' new asks keeps = asks_keep c now most old (asked_into out' answer) new asks.0 keeps
asks_into_keep c now most old out (Err short) out' new asks keeps = subst (λ (s : Option ReceiverState). AsksWithin c.asks s) (sym asks.3) keeps

-- one place keeps the limit: it isn't missing, or is as it was, or was only noticed
abbrev Within : (limit : ℕ) → Option Missed → Type 0
Within limit m = IfSome m (λ x. x.asks ≤ limit)

gone : (limit : ℕ) (m : Option Missed) → m ≡ None → Within limit m
gone limit m is = subst (λ (x : Option Missed). Within limit x) (sym is) tt

as_it_was : (limit : ℕ) (m n : Option Missed) → m ≡ n → Within limit n → Within limit m
as_it_was limit m n is keeps = subst (λ (x : Option Missed). Within limit x) (sym is) keeps

unchanged : (limit : ℕ) (old new : Option ReceiverState) → new ≡ old → AsksWithin limit old → AsksWithin limit new
unchanged limit old new is keeps = subst (λ (x : Option ReceiverState). AsksWithin limit x) (sym is) keeps

module _ (limit room : ℕ) (place : ℕ) (content : Content) (now : ℕ) where
  takes_keep : (old new : ReceiverState) → Takes room old place content now new → AsksWithin limit (Some old) → AsksWithin limit (Some new)
  takes_keep old new t keeps k =
      elim (cases_lt k new.cursor) [
        | inl under ↦ gone limit _ (t.missing_dropped k under)
        | inr over ↦ elim (cases_eq k place) [
          | inl here ↦ gone limit _ (ap new.missing here ∙ t.missing)
          | inr other ↦ elim (cases_lt old.highest k) [
            | inl high ↦ elim (cases_lt place k) [
              | inl far ↦ as_it_was limit _ _ (t.missing_above k over far) (keeps k)
              | inr near ↦ as_it_was limit _ _ (t.missing_between k over high (less k other near)) (omega arith)
            ]
            | inr low ↦ as_it_was limit _ _ (t.missing_below k over other low) (keeps k)
          ]
        ]
      ]
    where
      less : (k : ℕ) → k ≢ place → k ≤ place → k < place
      less k other near = elim (cases_lt k place) [ inl under ↦ under | inr above ↦ absurd (other (omega arith)) ]

  placed_keep : (taken : Taken) (old : ReceiverState) (new : Option ReceiverState) → AnswersPlace room old place content now (Ok taken) new → AsksWithin limit (Some old) → AsksWithin limit new
  placed_keep taken old None (at, above, free, over, none) keeps = absurd none
  placed_keep taken old (Some w) (at, above, free, over, takes) keeps = takes_keep old w takes keeps

  in_keep : (stream : Stream) (taken : Taken) (old : ReceiverState) (new : Option ReceiverState) → AnswersIn room stream old place content now (Ok taken) new → AsksWithin limit (Some old) → AsksWithin limit new
  in_keep Media taken old new step keeps = placed_keep taken old new step keeps
  in_keep Repair taken old new step keeps = placed_keep taken old new step keeps
  in_keep (Candidate ssrc) taken old new (asked, step) keeps = placed_keep taken (record old { learnt = Some ssrc }) new step keeps

module _ (limit room seq : ℕ) (content : Content) (now : ℕ) (taken : Taken) where
  number_keeps : (stream : Stream) (old new : Option ReceiverState) → TakesNumber room stream old seq content now (Ok taken) new → AsksWithin limit old → AsksWithin limit new
  number_keeps Media None None (at, over, none) keeps = absurd none
  number_keeps Media None (Some w) (at, over, starts) keeps = λ k. gone limit _ (starts.missing k)
  number_keeps Repair None new (is, same) keeps = unchanged limit None new same keeps
  number_keeps (Candidate ssrc) None new (is, same) keeps = unchanged limit None new same keeps
  number_keeps stream (Some old) new (inl (far, is, same)) keeps = unchanged limit (Some old) new same keeps
  number_keeps stream (Some old) new (inr (inl (past_end, is, same))) keeps = unchanged limit (Some old) new same keeps
  number_keeps stream (Some old) new (inr (inr (place, near, fits, step))) keeps = in_keep limit room place content now stream taken old new step keeps

spelled_keeps : (limit room : ℕ) (c : Config) (octets : List ℕ) (now : ℕ) (answer : Result Taken ReceiveFault) (old new : Option ReceiverState) →
    TakesOrRefuses room c old octets now answer new → AsksWithin limit old → AsksWithin limit new
spelled_keeps limit room c octets now (Ok taken) old new step keeps = number_keeps limit room step.seq step.content now taken step.stream old new step.takes keeps
spelled_keeps limit room c octets now (Err fault) old new same keeps = unchanged limit old new same keeps

pub hears_keep : (limit room : ℕ) (c : Config) (octets : List ℕ) (now : ℕ) (answer : Result Taken ReceiveFault) (old new : Option ReceiverState) →
    Hears room c old octets now answer new → AsksWithin limit old → AsksWithin limit new
hears_keep limit room c octets now answer old new hears keeps = spelled_keeps limit room c octets now answer old new (whichever room c old octets now answer new hears) keeps

passes_keep : (limit : ℕ) (old : ReceiverState) (new : Option ReceiverState) → IsSomeAnd new (Passes old) → AsksWithin limit (Some old) → AsksWithin limit new
passes_keep limit old None none keeps = absurd none
passes_keep limit old (Some w) passes keeps =
    λ k. elim (cases_eq k old.cursor) [
      | inl here ↦ gone limit _ (ap w.missing here ∙ passes.missing_dropped)
      | inr other ↦ as_it_was limit _ _ (passes.missing k other) (keeps k)
    ]

plays_keep_from : (limit patience now : ℕ) (old : ReceiverState) (played : Played) (new : Option ReceiverState) → Plays patience old now played new → AsksWithin limit (Some old) → AsksWithin limit new
plays_keep_from limit patience now old (Packet place content) new (at, held, passes) keeps = passes_keep limit old new passes keeps
plays_keep_from limit patience now old (Gap place) new (at, free, cause, passes) keeps = passes_keep limit old new passes keeps
plays_keep_from limit patience now old Wait new (free, waits, same) keeps = unchanged limit (Some old) new same keeps

pub plays_keep : (limit patience now : ℕ) (old : Option ReceiverState) (played : Played) (new : Option ReceiverState) → PlaysAny patience old now played new → AsksWithin limit old → AsksWithin limit new
plays_keep limit patience now None Wait new same keeps = unchanged limit None new same keeps
plays_keep limit patience now None (Packet place content) new never keeps = absurd never
plays_keep limit patience now None (Gap place) new never keeps = absurd never
plays_keep limit patience now (Some old) played new plays keeps = plays_keep_from limit patience now old played new plays keeps

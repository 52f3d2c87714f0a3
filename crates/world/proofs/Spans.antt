-- What every log leaves of the receiver, whatever was injected: a window no longer than its room, and missing places
-- between the cursor and the highest place.
use Rattle.std.proofs.Common.{◌≡◌, ℕ, ◌+◌, ◌<◌, ◌≤◌, Bool, true, false, List, [], ◌∷◌, take, Option, Some, None, if◌then◌else◌, IsSomeAnd, Result, Ok, Err, refl, sym, ap, subst, ◌∙◌, ⊎_elim, inl, inr, arith}
use Rattle.std.specs.Option.{option_map}
use Rattle.std.proofs.lemmas.Bool.{cases_eq, cases_lt}
use Rattle.std.proofs.lemmas.Option.{none-some}
use Rattle.arrayvec.specs.ArrayVec.{ArrayVec}
use Rattle.places.specs.Among.{is_among}
use Rattle.rtpwire.specs.declared.content.Content.{Content}
use Rattle.receiver.specs.declared.answer.Taken.{Taken as Took}
use Rattle.receiver.specs.declared.answer.Played.{Played as Play_answer}
use Rattle.receiver.specs.declared.answer.Played.TheVariants.{Packet, Gap, Wait}
use Rattle.receiver.specs.declared.fault.ReceiveFault.{ReceiveFault}
use Rattle.receiver.specs.declared.stream.Stream.{Stream}
use Rattle.receiver.specs.declared.stream.Stream.TheVariants.{Media, Repair, Candidate}
use Rattle.receiver.specs.Window.{Missed, ReceiverState, Starts, Takes, Passes, AnswersPlace, StartsAt, PlaysAny}
use Rattle.receiver.specs.Heard.{AnswersIn, TakesNumber, TakesOrRefuses}
use Rattle.receiver.specs.Asks.{asked_once, Asks, AsksAny}
use Rattle.world.specs.declared.event.Event.{Event}
use Rattle.world.specs.declared.event.Event.TheVariants.{Send, Repair as Retransmit, Ask, Deliver, Play, Inject}
use Rattle.world.specs.declared.event.End.{End}
use Rattle.world.specs.declared.event.End.TheVariants.{Sender, Receiver}
use Rattle.world.specs.declared.event.Answer.{Answer}
use Rattle.world.specs.declared.event.Entry.{Entry}
use Rattle.world.specs.declared.event.Entry.TheVariants.{Sent, SendRefused, Repaired, NoRepair, Asked, NoAsk, Nothing, Delivered, Injected, Played}
use Rattle.world.specs.Config.{Config}
use Rattle.world.specs.Labels.{end_of}
use Rattle.world.specs.Answers.{WorldState, new_stand, HearsAt, Answers}
use Rattle.world.proofs.Order.{AnyHearing}
use Rattle.stores.specs.Asking.{longest_ask}

pub record Spans (room : ℕ) (w : ReceiverState) : Type 0 where
  pub short : w.highest < w.cursor + room
  pub above : (k : ℕ) → w.highest < k → w.held k ≡ None
  pub missing : (k : ℕ) (m : Missed) → w.missing k ≡ Some m → (w.cursor ≤ k) × (k < w.highest) × (w.held k ≡ None)

abbrev pub SpansAny : ℕ → Option ReceiverState → Type 0
SpansAny room None = Unit {0}
SpansAny room (Some w) = Spans room w

pub spans_starts : (room place : ℕ) (c : Content) (new : ReceiverState) → 1 ≤ room → Starts place c new → Spans room new
spans_starts room place c new some t =
    record {
      short = omega (arith, t.cursor, t.highest, some);
      above = λ k h. t.held_else k (omega (arith, t.highest, h));
      missing = λ k m is. absurd (none-some m (sym (t.missing k) ∙ is));
    }

pub spans_takes : (room place now : ℕ) (c : Content) (old new : ReceiverState) → 1 ≤ room → Takes room old place c now new → Spans room old → Spans room new
spans_takes room place now c old new some t spans =
    record {
      short = let h = spans.short in omega (arith, t.cursor, t.highest, h, some);
      above = λ k h. ⊎_elim (λ (low : k < new.cursor). t.held_dropped k low) (λ high. t.held_else k high (omega (arith, t.highest, h)) ∙ spans.above k (omega (arith, t.highest, h))) (cases_lt k new.cursor);
      missing = λ k m is. grind (arith, cases_lt k new.cursor, cases_eq k place, cases_lt k place, cases_lt old.highest k, t.highest, t.cursor, t.missing, t.held_else k, t.missing_dropped k, t.missing_between k, t.missing_below k, t.missing_above k, spans.missing k m, spans.above k);
    }

pub spans_passes : (room : ℕ) (old new : ReceiverState) → Passes old new → Spans room old → Spans room new
spans_passes room old new t spans =
    record {
      short = let h = spans.short in omega (arith, t.cursor, t.highest, h);
      above = λ k h. grind (arith, cases_eq k old.cursor, t.highest, t.held k, t.held_dropped, spans.above k);
      missing = λ k m is. grind (arith, cases_eq k old.cursor, t.highest, t.cursor, t.held k, t.missing k, t.missing_dropped, spans.missing k m);
    }

-- a place that is missing after an ask was missing
pub asked_was : (b : Bool) (now : ℕ) (o : Option Missed) (m : Missed) → (if b then option_map (asked_once now) o else o) ≡ Some m → (was : Missed) × (o ≡ Some was)
asked_was false now o m is = (m, is)
asked_was true now None m is = absurd (none-some m is)
asked_was true now (Some was) m is = (was, refl)

pub spans_asks : (room now : ℕ) (covered : List ℕ) (old new : ReceiverState) → Asks old covered now new → Spans room old → Spans room new
spans_asks room now covered old new t spans =
    record {
      short = let h = spans.short in omega (arith, t.cursor, t.highest, h);
      above = λ k h. t.held k ∙ spans.above k (omega (arith, t.highest, h));
      missing = λ k m is.
          let was = asked_was (is_among covered k) now (old.missing k) m (sym (t.missing k) ∙ is) in
          let h = spans.missing k was.0 was.1 in (omega (arith, t.cursor, h.0), omega (arith, t.highest, h.1), t.held k ∙ h.2);
    }

-- what was learnt says nothing of the span
pub spans_learns : (room : ℕ) (old : ReceiverState) (learnt : Option ℕ) → Spans room old → Spans room (record old { learnt = learnt })
spans_learns room old learnt spans = record { short = spans.short; above = spans.above; missing = spans.missing }

same_spans : (room : ℕ) (old new : Option ReceiverState) → new ≡ old → SpansAny room old → SpansAny room new
same_spans room old new is was = subst (λ (r : Option ReceiverState). SpansAny room r) (sym is) was

module _ (c : Config) (some : 1 ≤ c.window) (now : ℕ) where
  placed : (place : ℕ) (content : Content) (taken : Took) (old : ReceiverState) (new : Option ReceiverState) → AnswersPlace c.window old place content now (Ok taken) new → Spans c.window old → SpansAny c.window new
  placed place content taken old None (at, above, free, over, none) was = absurd none
  placed place content taken old (Some w) (at, above, free, over, taking) was = spans_takes c.window place now content old w some taking was

  placed_in : (stream : Stream) (place : ℕ) (content : Content) (taken : Took) (old : ReceiverState) (new : Option ReceiverState) → AnswersIn c.window stream old place content now (Ok taken) new → Spans c.window old → SpansAny c.window new
  placed_in Media place content taken old new step was = placed place content taken old new step was
  placed_in Repair place content taken old new step was = placed place content taken old new step was
  placed_in (Candidate ssrc) place content taken old new (asked, step) was = placed place content taken (record old { learnt = Some ssrc }) new step (spans_learns c.window old (Some ssrc) was)

  started : (place : ℕ) (content : Content) (taken : Took) (new : Option ReceiverState) → StartsAt place content (Ok taken) new → SpansAny c.window new
  started place content taken None (at, over, none) = absurd none
  started place content taken (Some w) (at, over, starting) = spans_starts c.window place content w some starting

  numbered : (stream : Stream) (seq : ℕ) (content : Content) (taken : Took) (old new : Option ReceiverState) → TakesNumber c.window stream old seq content now (Ok taken) new → SpansAny c.window old → SpansAny c.window new
  numbered Media seq content taken None new step was = started (65536 + seq) content taken new step
  numbered Repair seq content taken None new (is, same) was = absurd cc
  numbered (Candidate ssrc) seq content taken None new (is, same) was = absurd cc
  numbered stream seq content taken (Some old) new (inl (far, is, same)) was = absurd cc
  numbered stream seq content taken (Some old) new (inr (inl (past_end, is, same))) was = absurd cc
  numbered stream seq content taken (Some old) new (inr (inr (place, near, fits, step))) was = placed_in stream place content taken old new step was

  heard_any : (octets : List ℕ) (heard : Result Took ReceiveFault) (old new : Option ReceiverState) → TakesOrRefuses c.window c.receiver old octets now heard new → SpansAny c.window old → SpansAny c.window new
  heard_any octets (Ok taken) old new step was = numbered step.stream step.seq step.content taken old new step.takes was
  heard_any octets (Err fault) old new same was = same_spans c.window old new same was

passed : (room : ℕ) (old : ReceiverState) (new : Option ReceiverState) → IsSomeAnd new (Passes old) → Spans room old → SpansAny room new
passed room old None none was = absurd none
passed room old (Some w) pass was = spans_passes room old w pass was

played : (c : Config) (now : ℕ) (answer : Play_answer) (old new : Option ReceiverState) → PlaysAny c.receiver.patience old now answer new → SpansAny c.window old → SpansAny c.window new
played c now Wait None new is was = same_spans c.window None new is was
played c now (Packet place content) None new never was = absurd never
played c now (Gap place) None new never was = absurd never
played c now Wait (Some old) new (free, impatient, is) was = same_spans c.window (Some old) new is was
played c now (Packet place content) (Some old) new (at, held, pass) was = passed c.window old new pass was
played c now (Gap place) (Some old) new (at, free, cause, pass) was = passed c.window old new pass was

asked : (room now : ℕ) (covered : List ℕ) (old : ReceiverState) (new : Option ReceiverState) → IsSomeAnd new (Asks old covered now) → Spans room old → SpansAny room new
asked room now covered old None none was = absurd none
asked room now covered old (Some w) asks was = spans_asks room now covered old w asks was

asked_any : (c : Config) (now : ℕ) (datagram : ArrayVec ℕ) (old new : Option ReceiverState) → AsksAny c.receiver old now (Some datagram) new → SpansAny c.window old → SpansAny c.window new
asked_any c now datagram None new (none, is) was = absurd cc
asked_any c now datagram (Some old) new asks was = asked c.window now (take asks.answers.1.asked.count (take longest_ask asks.due)) old new asks.answers.1.asked.asks was

receiver_of : (v w : WorldState) → v ≡ w → v.receiver ≡ w.receiver
receiver_of v w e = ap (λ (x : WorldState). x.receiver) e

module _ (any : AnyHearing) (c : Config) (some : 1 ≤ c.window) where
  heard : (end : End) (octets : List ℕ) (now : ℕ) (answer : Answer) (old new : WorldState) → HearsAt c end old octets now answer new → SpansAny c.window old.receiver → SpansAny c.window new.receiver
  heard Sender octets now answer old new h was = same_spans c.window old.receiver new.receiver h.receiver was
  heard Receiver octets now answer old new h was =
      heard_any c some now octets h.heard old.receiver new.receiver (any c.window c.receiver old.receiver octets now h.heard new.receiver h.hears) was

  pub spans_all : (events : List Event) (past : List Entry) (end : WorldState) → Answers c events past end → SpansAny c.window end.receiver
  spans_all [] [] end is = same_spans c.window None end.receiver (receiver_of end (new_stand c) is) tt
  spans_all [] (entry ∷ past) end never = absurd never
  spans_all (event ∷ events) [] end never = absurd never
  spans_all (Send content padding ∷ events) (Sent place index sent ∷ past) end (old, before, (same, step)) = same_spans c.window old.receiver end.receiver step.receiver (spans_all events past old before)
  spans_all (Send content padding ∷ events) (SendRefused fault ∷ past) end (old, before, (why, is)) = same_spans c.window old.receiver end.receiver (receiver_of end old is) (spans_all events past old before)
  spans_all (Retransmit ∷ events) (Repaired place index ∷ past) end (old, before, step) = same_spans c.window old.receiver end.receiver step.receiver (spans_all events past old before)
  spans_all (Retransmit ∷ events) (NoRepair ∷ past) end (old, before, (why, is)) = same_spans c.window old.receiver end.receiver (receiver_of end old is) (spans_all events past old before)
  spans_all (Ask now ∷ events) (Asked index moment ∷ past) end (old, before, (now_is, step)) = asked_any c now step.datagram old.receiver end.receiver step.asks (spans_all events past old before)
  spans_all (Ask now ∷ events) (NoAsk moment ∷ past) end (old, before, (now_is, why, is)) = same_spans c.window old.receiver end.receiver (receiver_of end old is) (spans_all events past old before)
  spans_all (Deliver index now ∷ events) (Nothing ∷ past) end (old, before, (none, is)) = same_spans c.window old.receiver end.receiver (receiver_of end old is) (spans_all events past old before)
  spans_all (Deliver index now ∷ events) (Delivered at label moment answer ∷ past) end (old, before, (at_is, now_is, delivers)) =
      heard (end_of label) delivers.datagram.items now answer old end delivers.hears (spans_all events past old before)
  spans_all (Play now ∷ events) (Played moment answer ∷ past) end (old, before, (now_is, plays, sender, wire)) = played c now answer old.receiver end.receiver plays (spans_all events past old before)
  spans_all (Inject side datagram now ∷ events) (Injected at moment answer ∷ past) end (old, before, (at_is, now_is, hears, wire)) =
      heard side datagram.items now answer old end hears (spans_all events past old before)
  spans_all (event ∷ events) (entry ∷ past) end (old, before, never) = absurd never

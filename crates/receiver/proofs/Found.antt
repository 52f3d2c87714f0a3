-- The place that was found for a sequence number, and what the window answered for it, as what the receiver answers.
use Rattle.std.proofs.Common.{◌≡◌, ℕ, ◌-◌, ◌<◌, ◌≤◌, cond, List, Option, Some, None, Result, Ok, Err, refl, sym, ap, subst, inl, inr, slice_get}
use Rattle.std.specs.Prelude.{IsSomeAnd, IsSome, IsErrAnd}
use Rattle.std.proofs.lemmas.Bool.{cases_lt, lt-ltb}
use Rattle.std.proofs.lemmas.Option.{none-some}
use Rattle.places.specs.declared.nearness.PlaceFault.TheVariants.{Far, PastEnd}
use Rattle.rtpwire.specs.declared.content.Content.{Content}
use Rattle.stores.specs.declared.slot.Slot.{Slot}
use Rattle.stores.specs.declared.slot.Slot.TheVariants.{Held, Missing}
use Rattle.stores.specs.declared.slot.PutFault.{PutFault}
use Rattle.stores.specs.declared.slot.PutFault.TheVariants.{Late, Duplicate}
use Rattle.stores.specs.Span.{Span, IsSpan}
use Rattle.stores.specs.ByPlace.{slot_at, IsHeld, PutStep}
use Rattle.receiver.specs.declared.answer.Taken.{Taken}
use Rattle.receiver.specs.declared.fault.ReceiveFault.{ReceiveFault}
use Rattle.receiver.specs.declared.fault.ReceiveFault.TheVariants as refused
use Rattle.receiver.specs.declared.stream.Stream.{Stream}
use Rattle.receiver.specs.declared.stream.Stream.TheVariants.{Media, Repair, Candidate}
use Rattle.receiver.specs.Window.{ReceiverState, StartsAt, held_in, missed_in, window_of}
use Rattle.receiver.specs.Heard.{WasAsked, AnswersIn, TakesNumber}
use Rattle.receiver.specs.Receiver.{IsUnlearnt}
use Rattle.receiver.proofs.Takes.{TakesPlace, put_takes}
use Rattle.receiver.proofs.Numbered.{is_err}
use Rattle.receiver.specs.Finding.{MayHave, FindsNear, FindsFirst, FindsPlace}

-- a sequence number for which no place was found
module _ (room seq : ℕ) (content : Content) (now : ℕ) where
  unstarted : (stream : Stream) (fault : ReceiveFault) → FindsFirst stream seq (Err fault) → TakesNumber room stream None seq content now (Err fault) None
  unstarted Media refused.NotStarted never = absurd (never tt)
  unstarted Repair refused.NotStarted never = (refl, refl)
  unstarted (Candidate ssrc) refused.NotStarted never = (refl, refl)
  unstarted stream fault never = absurd never

  not_had : (stream : Stream) (old : ReceiverState) (place : ℕ) → (MayHave stream old place → ⊥) → AnswersIn room stream old place content now (Err refused.Unasked) (Some old)
  not_had Media old place never = absurd (never tt)
  not_had Repair old place never = absurd (never tt)
  not_had (Candidate ssrc) old place never = (never, refl)

  not_near : (stream : Stream) (old : ReceiverState) (fault : ReceiveFault) → FindsNear stream old seq (Err fault) → TakesNumber room stream (Some old) seq content now (Err fault) (Some old)
  not_near stream old (refused.Place Far) far = inl (far, refl, refl)
  not_near stream old (refused.Place PastEnd) past_end = inr (inl (past_end, refl, refl))
  not_near stream old refused.Unasked (place, near, fits, never) = inr (inr (place, near, fits, not_had stream old place never))
  not_near stream old fault never = absurd never

  pub refused_number : (stream : Stream) (old : Option ReceiverState) (fault : ReceiveFault) (answer : Result Taken ReceiveFault) → FindsPlace stream old seq (Err fault) →
      IsErrAnd answer (λ e. e ≡ fault) → TakesNumber room stream old seq content now answer old
  refused_number stream None fault answer found why = subst (λ (r : Result Taken ReceiveFault). TakesNumber room stream None seq content now r None) (sym (is_err answer fault why)) (unstarted stream fault found)
  refused_number stream (Some old) fault answer found why = subst (λ (r : Result Taken ReceiveFault). TakesNumber room stream (Some old) seq content now r (Some old)) (sym (is_err answer fault why)) (not_near stream old fault found)

-- what was learnt after a packet of this stream was taken
abbrev pub learnt_in : Stream → (learnt : Option ℕ) → Option ℕ
learnt_in Media learnt = learnt
learnt_in Repair learnt = learnt
learnt_in (Candidate ssrc) learnt = Some ssrc

pub learns_candidate : (learnt : Option ℕ) (stream : Stream) (ssrc : ℕ) → stream ≡ Candidate ssrc → learnt_in stream learnt ≡ Some ssrc
learns_candidate learnt stream ssrc is = ap (λ (x : Stream). learnt_in x learnt) is

pub learns_nothing : (learnt : Option ℕ) (stream : Stream) → ((ssrc : ℕ) → stream ≡ Candidate ssrc → ⊥) → learnt_in stream learnt ≡ learnt
learns_nothing learnt Media other = refl
learns_nothing learnt Repair other = refl
learns_nothing learnt (Candidate ssrc) other = absurd (other ssrc refl)

-- a place that was found, and what the window answered to a content there
module _ (learnt : Option ℕ) (slots : List Slot) (room seq : ℕ) (content : Content) (now place : ℕ) where
  abbrev kept : Option ℕ → Span
  kept cursor = record { cursor = cursor; slots = slots; capacity = room }

  -- the window took it
  takes : (stream : Stream) (cursor : Option ℕ) (overrun : ℕ) (new : Span) → IsUnlearnt (kept cursor) learnt → IsSpan (kept cursor) →
      FindsPlace stream (window_of learnt (kept cursor)) seq (Ok place) → PutStep place content now (kept cursor) (Ok overrun) new →
      TakesNumber room stream (window_of learnt (kept cursor)) seq content now (Ok (record { place = place; overrun = overrun })) (window_of (learnt_in stream learnt) new)
  takes Media None overrun new unlearnt is (first, may) step =
      subst (λ (p : ℕ). StartsAt p content (Ok (record { place = place; overrun = overrun })) (window_of learnt new)) first (put_takes learnt None slots room new place overrun content now unlearnt is step)
  takes Repair None overrun new unlearnt is (first, never) step = absurd never
  takes (Candidate ssrc) None overrun new unlearnt is (first, never) step = absurd never
  takes Media (Some k) overrun new unlearnt is (near, fits, may) step = inr (inr (place, near, fits, put_takes learnt (Some k) slots room new place overrun content now unlearnt is step))
  takes Repair (Some k) overrun new unlearnt is (near, fits, may) step = inr (inr (place, near, fits, put_takes learnt (Some k) slots room new place overrun content now unlearnt is step))
  takes (Candidate ssrc) (Some k) overrun new unlearnt is (near, fits, asked) step =
      inr (inr (place, near, fits, (asked, put_takes (Some ssrc) (Some k) slots room new place overrun content now (λ never. absurd (none-some k (sym never))) is step)))

  pub takes_number : (stream : Stream) (cursor : Option ℕ) (overrun : ℕ) (new : Span) (after : Option ℕ) → after ≡ learnt_in stream learnt → IsUnlearnt (kept cursor) learnt → IsSpan (kept cursor) →
      FindsPlace stream (window_of learnt (kept cursor)) seq (Ok place) → PutStep place content now (kept cursor) (Ok overrun) new →
      TakesNumber room stream (window_of learnt (kept cursor)) seq content now (Ok (record { place = place; overrun = overrun })) (window_of after new)
  takes_number stream cursor overrun new after learns unlearnt is found step =
      subst (λ (l : Option ℕ). TakesNumber room stream (window_of learnt (kept cursor)) seq content now (Ok (record { place = place; overrun = overrun })) (window_of l new)) (sym learns)
      (takes stream cursor overrun new unlearnt is found step)

  -- below the cursor it has no slot, so one that is held lies above
  no_slot : (k : ℕ) → place < k → slot_at (kept (Some k)) place ≡ None
  no_slot k under = ap (λ b. cond b None (slice_get slots (place - k))) (lt-ltb _ _ under)

  held_above : (k : ℕ) → IsSomeAnd (slot_at (kept (Some k)) place) IsHeld → k ≤ place
  held_above k held = elim (cases_lt place k) [ inl under ↦ absurd (subst (λ (o : Option Slot). IsSomeAnd o IsHeld) (no_slot k under) held) | inr above ↦ above ]

  is_held : (o : Option Slot) → IsSomeAnd o IsHeld → IsSome (held_in o)
  is_held None none = absurd none
  is_held (Some (Held content)) held = refl
  is_held (Some (Missing noticed asks last)) never = absurd never

  -- one that was asked for is neither below the cursor nor held
  asked_not_late : (k : ℕ) → WasAsked (missed_in (slot_at (kept (Some k)) place)) → place < k → ⊥
  asked_not_late k asked under = subst (λ (o : Option Slot). WasAsked (missed_in o)) (no_slot k under) asked

  asked_not_held : (o : Option Slot) → WasAsked (missed_in o) → IsSomeAnd o IsHeld → ⊥
  asked_not_held None asked held = held
  asked_not_held (Some (Held content)) asked held = asked
  asked_not_held (Some (Missing noticed asks last)) asked held = held

  -- the window refused it, which it does at no place that was asked for, and not before its start
  refuses : (k : ℕ) (fault : PutFault) (new : Span) → PutStep place content now (kept (Some k)) (Err fault) new →
      TakesPlace room (window_of learnt (kept (Some k))) place content now (Err (refused.Put fault)) (window_of learnt new)
  refuses k Late new (under, same) = (under, ap (window_of learnt) same)
  refuses k Duplicate new (held, same) = (held_above k held, is_held _ held, ap (window_of learnt) same)

  not_refused : (k : ℕ) (fault : PutFault) (new : Span) → WasAsked (missed_in (slot_at (kept (Some k)) place)) → PutStep place content now (kept (Some k)) (Err fault) new → ⊥
  not_refused k Late new asked (under, same) = asked_not_late k asked under
  not_refused k Duplicate new asked (held, same) = asked_not_held _ asked held

  unstarted_takes : (fault : PutFault) (new : Span) → PutStep place content now (kept None) (Err fault) new → ⊥
  unstarted_takes Late new (under, same) = under
  unstarted_takes Duplicate new (held, same) = held

  not_put : (stream : Stream) (cursor : Option ℕ) (fault : PutFault) (new : Span) → FindsPlace stream (window_of learnt (kept cursor)) seq (Ok place) →
      PutStep place content now (kept cursor) (Err fault) new →
      TakesNumber room stream (window_of learnt (kept cursor)) seq content now (Err (refused.Put fault)) (window_of learnt new)
  not_put stream None fault new found step = absurd (unstarted_takes fault new step)
  not_put Media (Some k) fault new (near, fits, may) step = inr (inr (place, near, fits, refuses k fault new step))
  not_put Repair (Some k) fault new (near, fits, may) step = inr (inr (place, near, fits, refuses k fault new step))
  not_put (Candidate ssrc) (Some k) fault new (near, fits, asked) step = absurd (not_refused k fault new asked step)

  pub refuses_number : (stream : Stream) (cursor : Option ℕ) (fault : PutFault) (answer : Result Taken ReceiveFault) (new : Span) → FindsPlace stream (window_of learnt (kept cursor)) seq (Ok place) →
      PutStep place content now (kept cursor) (Err fault) new → IsErrAnd answer (λ e. e ≡ refused.Put fault) →
      TakesNumber room stream (window_of learnt (kept cursor)) seq content now answer (window_of learnt new)
  refuses_number stream cursor fault answer new found step why =
      subst (λ (r : Result Taken ReceiveFault). TakesNumber room stream (window_of learnt (kept cursor)) seq content now r (window_of learnt new)) (sym (is_err answer (refused.Put fault) why))
      (not_put stream cursor fault new found step)
